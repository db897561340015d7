-- The theorems of schemas and their tables (RoundTrip), the laws of the check's answer and of the walk (Verdict, Walk, Steps), and what proves them.
pub mod RoundTrip
pub mod Verdict
pub mod Walk
pub mod Steps
pub mod Cases
-- records
pub mod Records
pub mod RecordsBack
-- payloads
pub mod Parts
pub mod Payloads
pub mod PayloadsRead
-- from a schema to its records and back
pub mod Written
pub mod ReadBack
pub mod InOrder
pub mod WriteBack
-- loops
pub mod Scans
pub mod Judging
pub mod Known
