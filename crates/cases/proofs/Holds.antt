-- Every marked case is told as document 01 says.
use mathlib.Core.Path.{◌≡◌, refl}
use mathlib.Core.List.{map, flat_map}
use Rattle.wire.specs.Bytes.{bytes}
use Rattle.wire.specs.Le.{le_bytes, le_number, le_at}
use Rattle.wire.specs.Pick.{pick}
use Rattle.wire.specs.Decimal.{digits, decimal}
use Rattle.wire.specs.Record.{head_bytes, record_bytes}
use Rattle.identifier.specs.Byte.{lower_of, upper_of}
use Rattle.identifier.specs.Name.{is_name}
use Rattle.identifier.specs.Forms.{snake_of, pascal_of}
use Rattle.identifier.specs.Order.{name_order, same_name, is_before}
use Rattle.identifier.specs.Survive.{survives}
use Rattle.stem.specs.Stem.{last_part, is_parent, cut, stem_of, import_name}
use Rattle.token.specs.Payload.{is_identifier, is_path, is_integer, is_paragraph, paragraph_of, after_paragraph}
use Rattle.token.specs.Payload.{are_paragraphs, is_comment, is_payload, paragraphs_of, paragraph_bytes}
use Rattle.token.specs.Table.{token_of, is_whole, row_after, token_fault, fault_of, decode_from, decode, encode_tokens}
use Rattle.schema.specs.Encode.{encode_schema}
use Rattle.schema.specs.Payload.{is_sized, is_named, is_import, is_counted, is_declaration, is_field, indices_of}
use Rattle.schema.specs.Payload.{is_deleted, is_plain_type, is_custom, is_type_payload, is_payload as is_schema_payload}
use Rattle.schema.specs.Table.{records_of, is_framed, may_follow, is_later, row_after as arrays_after, is_right, is_next, is_schema_table}
use Rattle.schema.specs.Decode.{decode_schema}
use Rattle.text.specs.Wrap.{wrap}
use Rattle.text.specs.Text.{blank, line_text, paragraph_text, mark, is_inferred, import_text, plain_text, field_name, field_type}
use Rattle.text.specs.Text.{field_index, field_text, index_text, deleted_text, head_text, declaration_text, opening_text, text_of}
use Rattle.grammar.specs.Error.{error_bytes, errors_bytes}
use Rattle.grammar.specs.Reading.{parse}
use Rattle.grammar.specs.Answer.{fitted, read_answer}
use Rattle.printed.specs.Printed.{spaced, refusal_line, error_text, error_lines, schema_printed, printed}
use Rattle.cases.specs.Table.{Case, told, cases}

pub cases_hold : map (λ (c : Case). told c.asked) cases ≡ map (λ (c : Case). bytes c.told) cases
unfolding le_bytes le_number le_at pick digits decimal head_bytes record_bytes lower_of upper_of is_name snake_of pascal_of name_order same_name is_before survives last_part
    is_parent cut stem_of import_name is_identifier is_path is_integer is_paragraph paragraph_of after_paragraph are_paragraphs is_comment is_payload paragraphs_of
    paragraph_bytes token_of is_whole row_after token_fault fault_of decode_from decode encode_tokens encode_schema is_sized is_named is_import is_counted is_declaration
    is_field indices_of is_deleted is_plain_type is_custom is_type_payload is_schema_payload records_of is_framed may_follow is_later arrays_after is_right is_next
    is_schema_table decode_schema wrap blank line_text paragraph_text mark is_inferred import_text plain_text field_name field_type field_index field_text index_text
    deleted_text head_text declaration_text opening_text text_of error_bytes errors_bytes parse fitted read_answer spaced refusal_line error_text error_lines
    schema_printed printed flat_map
cases_hold = refl
