-- The table of a policy in its forms, and what `matrix` prints.
use Rattle.std.specs.Prelude.{◌≡◌, ◌⊎◌, ℕ, Bool, true, false, List, codes, Option, Some, None, option_map, unwrap_or, string_bytes, Ok}
use Rattle.std.specs.Io.KnownBytes.{Appends}
use Rattle.sip_policy.specs.declared.operation.Operation.{Operation}
use Rattle.sip_config_types.specs.declared.config.Config.{Config}
use Rattle.sipd_ask.specs.Question.{operation_asked}
use Rattle.sipd_matrix.specs.Text.{matrix_text}
use Rattle.sipd_matrix_forms.specs.Csv.{csv_text}
use Rattle.sipd_matrix_forms.specs.Html.{html_text}
use Rattle.sipd_arguments.specs.declared.call.MatrixCall.{MatrixCall}
use Rattle.sipd_exit.specs.Exits.{IsPrintFault}
use Rattle.sipd_exit.specs.declared.exit.Exit.{Exit}
use Rattle.sipd_exit.specs.declared.exit.Exit.TheVariants.{OtherPolicy}
use Rattle.sipd_tools.specs.Against.{ChangesPolicy, IsBefore, IsStated, KeepsPolicy}
use Rattle.sipd_tools.specs.Ends.{EndsAs}

-- as text, as comma-separated values, or as a page of HTML
abbrev pub table_text : Bool → Bool → Config → Operation → List ℕ
table_text false false config operation = matrix_text config operation
table_text false true config operation = html_text config operation
table_text true html config operation = csv_text config operation

-- the method that is asked for: INVITE, if none is named
abbrev pub method_of : MatrixCall → List ℕ
method_of call = unwrap_or (option_map string_bytes call.method) (codes "INVITE")

-- the whole table was printed; or, where there is a configuration from which cells would change, none does
abbrev pub PrintsAgainst : Option Config → Bool → Bool → Config → Operation → Option (List ℕ) → Option (List ℕ) → Type 0
PrintsAgainst None csv html config operation old new = Appends old new (table_text csv html config operation)
PrintsAgainst (Some before) csv html config operation old new = KeepsPolicy before config operation old new

-- the end, if that isn't so: not all is printed; or some cells change, and exactly these were printed
abbrev pub EndsAgainst : Option Config → Config → Operation → Option (List ℕ) → Option (List ℕ) → Exit → Type 0
EndsAgainst None config operation old new exit = IsPrintFault exit
EndsAgainst (Some before) config operation old new exit = EndsAs OtherPolicy (ChangesPolicy before config operation old new) exit

-- so it was of a stated configuration, for what is asked
pub record PrintsPolicy (call : MatrixCall) (old new : Option (List ℕ)) : Type 0 where
  pub config : Config
  pub operation : Operation
  pub before : Option Config
  pub stated : IsStated config
  pub asked : operation_asked (method_of call) ≡ Ok operation
  pub against : IsBefore call.against before
  pub printed : PrintsAgainst before call.csv call.html config operation old new

-- of a stated configuration it ends so, for what is asked
pub record EndsPolicy (call : MatrixCall) (old new : Option (List ℕ)) (exit : Exit) : Type 0 where
  pub config : Config
  pub operation : Operation
  pub before : Option Config
  pub stated : IsStated config
  pub asked : operation_asked (method_of call) ≡ Ok operation
  pub against : IsBefore call.against before
  pub ends : EndsAgainst before config operation old new exit

-- the end, if it isn't well; one before anything is to be printed leaves what was printed as it is
abbrev pub EndsMatrix : MatrixCall → Option (List ℕ) → Option (List ℕ) → Exit → Type 0
EndsMatrix call old new exit = (new ≡ old) ⊎ EndsPolicy call old new exit
