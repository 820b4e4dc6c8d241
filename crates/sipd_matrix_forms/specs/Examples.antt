-- The sample's table of INVITE, in lines.
use Rattle.std.specs.Prelude.{ℕ, List}
use Rattle.sip_policy.specs.declared.operation.Operation.{Operation}
use Rattle.sip_config_types.specs.Sample.{sample}
use Rattle.sip_matrix.specs.declared.column.Column.{Column}
use Rattle.sip_matrix.specs.Table.{table_of}
use Rattle.sipd_matrix_forms.specs.Csv.{class_lines}

-- the lines of a class of the sample's table, in the piece from midnight
abbrev pub sample_lines : Operation → Column → List ℕ
sample_lines operation class = class_lines sample operation (table_of sample.rules sample.users sample.own.domains) 0 class
