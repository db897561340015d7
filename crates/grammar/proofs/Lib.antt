-- The theorems of the grammar. Demand3 holds the statements of demand 3; Within, Twice and Narrow end with those about what reading gives; the others
-- prove them, rule by rule.
pub mod Demand3
pub mod Rules
pub mod Eats
pub mod Types
pub mod Fields
pub mod Declarations
pub mod Imports
pub mod Conditions
pub mod Opening
pub mod Schemas
pub mod Outcomes
pub mod Left
pub mod Fuel
pub mod Count
pub mod Sorting
pub mod Ranges
pub mod Held
pub mod Stems
pub mod Within
pub mod Twice
pub mod Narrow
pub mod Examples
