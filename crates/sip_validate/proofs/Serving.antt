-- What validation gives, by the table.
use Rattle.std.proofs.Common.{◌≡◌, ◌↔◌, ℕ, Bool, true, false, not, ◌||◌, cond, is_some, List, [], Option, Some, None, option_map, Result, Ok, Err, refl, sym, ap, ◌∙◌}
use Rattle.std.specs.Option.{ok_or, option_map_or}
use Rattle.std.specs.Result.{result_ok}
use Rattle.sip_message_form.specs.declared.message.Message.{Message}
use Rattle.sip_message_form.specs.declared.message.Start.{Start}
use Rattle.sip_message_form.specs.declared.message.Start.TheVariants.{Request, Status}
use Rattle.sip_message_fields.specs.declared.field.Field.{Field}
use Rattle.sip_uri.specs.declared.uri.Uri.{Uri}
use Rattle.sip_route.specs.declared.own.Own.{Own}
use Rattle.sip_header.specs.declared.core_fields.CoreFields.{CoreFields}
use Rattle.sip_header.specs.CoreFields.{core_in, core_of}
use Rattle.sip_route.specs.declared.way.Way.{Way}
use Rattle.sip_route.specs.Way.{way_from, way_of, request_uri, request_uri_in}
use Rattle.sip_validate.specs.declared.checked.Checked.{Checked}
use Rattle.sip_validate.specs.declared.refused.Refused.{Refused}
use Rattle.sip_validate.specs.UncheckedRequest.{UncheckedRequest, on_way, unchecked_with, is_request}
use Rattle.sip_validate.specs.Refused.{refused_with}
use Rattle.sip_validate.specs.Faults.{lacks_core_field, is_bad}
use Rattle.sip_validate.specs.Refusal.{Row, refused, refusal, refusal_of, unchecked_by, is_bad_request}
use Rattle.sip_validate.specs.Checked.{checked_with, checked_of, validation_by, validation_of}

-- ---- what is served

-- where validation gives what was read, nothing refuses
served_by : (read : Option Checked) (refused : Option (ℕ × List ℕ)) (checked : Checked) → validation_by read refused ≡ Ok checked
    → (refused ≡ None) × (read ≡ Some checked)
served_by read (Some x) checked h = cc
served_by None None checked h = cc
served_by (Some c) None checked h = (refl, cc)

-- and the other way round
read_by : (read : Option Checked) (refused : Option (ℕ × List ℕ)) (checked : Checked) → (refused ≡ None) × (read ≡ Some checked) → validation_by read refused ≡ Ok checked
read_by read refused checked h = ap (validation_by read) h.0 ∙ ap (λ c. ok_or c (Refused.Status 400 [])) h.1

pub served_is : (own : Own) (m : Message) (short : Bool) (checked : Checked) → ((validation_of own m short ≡ Ok checked) ↔
    ((refusal_of own m short ≡ None) × (checked_of own m ≡ Some checked)))
served_is own m short checked =
    (served_by (checked_of own m) (refusal_of own m short) checked, read_by (checked_of own m) (refusal_of own m short) checked)

-- ---- what is refused

-- a row that applies is the first that does
first_row : (applies : Bool) (row : Row) (others : Option Row) (r : UncheckedRequest) → applies ≡ true
    → option_map {U = ℕ × List ℕ} (λ (x : Row). (x.status, x.extra r)) (cond applies (Some row) others) ≡ Some (row.status, row.extra r)
first_row true row others r h = refl
first_row false row others r h = absurd (cc)

-- the first of two tests decides where it is passed
first_test : (a b : Bool) → a ≡ true → (a || b) ≡ true
first_test true b h = refl
first_test false b h = absurd (cc)

-- a request whose core fields can't be read is a bad one
pub lacking_refused : (own : Own) (m : Message) (short : Bool) (method uri version : List ℕ) → m.start ≡ Request method uri version → result_ok (core_of m) ≡ None
    → refusal_of own m short ≡ Some (400, [])
lacking_refused own m true method uri version is_request none = ap (λ start. option_map_or refusal (unchecked_by own m.fields true start) None) is_request
lacking_refused own m false method uri version is_request none =
    let r : UncheckedRequest = record {
      own = own;
      method = method;
      uri = uri;
      version = version;
      fields = m.fields;
      short = false;
      core = result_ok (core_of m);
      way = way_from own uri m.fields;
    } in
    let lacks : lacks_core_field r ≡ true = ap (λ (core : Option CoreFields). not (is_some core)) none in
    let bad : is_bad r ≡ true = first_test (lacks_core_field r) _ lacks in
    ap (λ start. option_map_or refusal (unchecked_by own m.fields false start) None) is_request ∙ first_row (is_bad r) (refused 400 is_bad) _ r bad

-- what is made of something there is something to be made of
none_made : {X Y : Type 0} (f : X → Y) (o : Option X) → option_map f o ≡ None → o ≡ None
none_made f None h = refl
none_made f (Some x) h = cc

-- where nothing refuses, something was read
read_or_refused : (own : Own) (m : Message) (short : Bool) (method uri version : List ℕ) → m.start ≡ Request method uri version → refusal_of own m short ≡ None
    → checked_of own m ≡ None → ⊥
read_or_refused own m short method uri version is_request passes none =
    let refused : refusal_of own m short ≡ Some (400, []) =
    lacking_refused own m short method uri version is_request (none_made (checked_with own m) (result_ok (core_of m)) none)
    in
    cc

-- where validation refuses, the table does
refused_by : (read : Option Checked) (refused : Option (ℕ × List ℕ)) (status : ℕ) (extra : List ℕ) → (refused ≡ None → read ≡ None → ⊥)
    → validation_by read refused ≡ Err (Refused.Status status extra) → refused ≡ Some (status, extra)
refused_by read (Some x) status extra either h = let both : Some (x.0, x.1) ≡ Some (status, extra) = cc in both
refused_by None None status extra either h = absurd (either refl refl)
refused_by (Some c) None status extra either h = cc

pub refused_is : (own : Own) (m : Message) (short : Bool) (method uri version : List ℕ) (status : ℕ) (extra : List ℕ) → m.start ≡ Request method uri version
    → ((validation_of own m short ≡ Err (Refused.Status status extra)) ↔ (refusal_of own m short ≡ Some (status, extra)))
refused_is own m short method uri version status extra is_request = (
  refused_by (checked_of own m) (refusal_of own m short) status extra (read_or_refused own m short method uri version is_request),
  λ h. ap (validation_by (checked_of own m)) h,
)

-- ---- with what was read

-- what the table says of a request with the core fields and on the way that were read, is what it says of it
tabled_by : (start : Start) (own : Own) (fields : List Field) (short : Bool) (core : CoreFields) (way : Way) → Some core ≡ result_ok (core_in fields)
    → way ≡ way_from own (request_uri start) fields
    → option_map_or (λ r. refusal (on_way way r)) (unchecked_with (Some core) own fields short start) None
    ≡ option_map_or refusal (unchecked_by own fields short start) None
tabled_by (Request method uri version) own fields short core way is_core is_way =
    let by_core : Option CoreFields → Option (ℕ × List ℕ) = λ (c : Option CoreFields).
    refusal (record { own = own; method = method; uri = uri; version = version; fields = fields; short = short; core = c; way = way })
    in
    let by_way : Way → Option (ℕ × List ℕ) = λ (w : Way).
    refusal (record { own = own; method = method; uri = uri; version = version; fields = fields; short = short; core = result_ok (core_in fields); way = w })
    in
    ap by_core is_core ∙ ap by_way is_way
tabled_by (Status code reason) own fields short core way is_core is_way = refl

-- a message whose core fields can't be read isn't served
lacking_by : (start : Start) (own : Own) (m : Message) (short : Bool) → m.start ≡ start → None ≡ result_ok (core_of m)
    → validation_of own m short ≡ Err (Refused.Status 400 [])
lacking_by (Request method uri version) own m short is none =
    ap (validation_by (checked_of own m)) (lacking_refused own m short method uri version is (sym none))
lacking_by (Status code reason) own m short is none =
    let by_start : Start → Result Checked Refused = λ (start : Start). validation_by (checked_of own m)
    (option_map_or refusal (unchecked_by own m.fields short start) None) in
    let by_core : Option CoreFields → Result Checked Refused = λ (c : Option CoreFields). ok_or (option_map (checked_with own m) c) (Refused.Status 400 []) in
    ap by_start is ∙ ap by_core (sym none)

pub lacking : (own : Own) (m : Message) (short : Bool) → None ≡ result_ok (core_of m) → validation_of own m short ≡ Err (Refused.Status 400 [])
lacking own m short none = lacking_by m.start own m short refl none

-- a message that the table lets pass is served
pub validated : (own : Own) (m : Message) (short : Bool) (core : CoreFields) (way : Way) (uri : Option Uri) → Some core ≡ result_ok (core_of m) → way ≡ way_of own m
    → uri ≡ request_uri_in way
    → None ≡ option_map refused_with (option_map_or (λ r. refusal (on_way way r)) (unchecked_with (Some core) own m.fields short m.start) None)
    → validation_of own m short ≡ Ok (record { core = core; way = way; uri = uri })
validated own m short core way uri is_core is_way is_uri none =
    let passes : refusal_of own m short ≡ None =
    sym (tabled_by m.start own m.fields short core way is_core is_way) ∙ none_made refused_with _ (sym none)
    in
    let by_core : Option CoreFields → Result Checked Refused = λ (c : Option CoreFields). ok_or (option_map (checked_with own m) c) (Refused.Status 400 []) in
    let by_way : Way → Result Checked Refused = λ (w : Way). Ok (record { core = core; way = w; uri = request_uri_in w }) in
    let by_uri : Option Uri → Result Checked Refused = λ (u : Option Uri). Ok (record { core = core; way = way; uri = u }) in
    ap (validation_by (checked_of own m)) passes ∙ ap by_core (sym is_core) ∙ ap by_way (sym is_way) ∙ ap by_uri (sym is_uri)

-- what the table refuses isn't served
refused_by_row : (read : Option Checked) (o : Option (ℕ × List ℕ)) (e : Refused) → option_map refused_with o ≡ Some e → validation_by read o ≡ Err e
refused_by_row read None e h = absurd cc
refused_by_row read (Some x) e h =
    let same : Refused.Status x.0 x.1 ≡ e = cc in
    let as_error : Refused → Result Checked Refused = λ (v : Refused). Err v in
    ap as_error same

pub not_validated : (own : Own) (m : Message) (short : Bool) (core : CoreFields) (way : Way) (e : Refused) → Some core ≡ result_ok (core_of m) → way ≡ way_of own m
    → Some e ≡ option_map refused_with (option_map_or (λ r. refusal (on_way way r)) (unchecked_with (Some core) own m.fields short m.start) None)
    → validation_of own m short ≡ Err e
not_validated own m short core way e is_core is_way refused =
    let table : option_map refused_with (refusal_of own m short) ≡ Some e =
    ap (option_map refused_with) (sym (tabled_by m.start own m.fields short core way is_core is_way)) ∙ sym refused in
    refused_by_row (checked_of own m) (refusal_of own m short) e table

-- what the table says of what was read is what it says of the message
pub by_table : (own : Own) (m : Message) (short : Bool) (core : CoreFields) (way : Way) → result_ok (core_of m) ≡ Some core → way ≡ way_of own m
    → option_map refused_with (option_map_or (λ r. refusal (on_way way r)) (unchecked_with (Some core) own m.fields short m.start) None)
    ≡ option_map refused_with (refusal_of own m short)
by_table own m short core way is_core is_way =
    ap (option_map refused_with) (tabled_by m.start own m.fields short core way (sym is_core) is_way)

-- ---- bad requests

lacking_bad_by : (start : Start) (own : Own) (fields : List Field) (short : Bool) → None ≡ result_ok (core_in fields)
    → option_map_or is_bad (unchecked_by own fields short start) false ≡ is_request start
lacking_bad_by (Request method uri version) own fields true none = refl
lacking_bad_by (Request method uri version) own fields false none =
    first_test (not (is_some (result_ok (core_in fields)))) _ (ap (λ (core : Option CoreFields). not (is_some core)) (sym none))
lacking_bad_by (Status code reason) own fields short none = refl

-- a request whose core fields can't be read is a bad one
pub lacking_is_bad : (own : Own) (m : Message) (short : Bool) → None ≡ result_ok (core_of m) → is_bad_request own m short ≡ is_request m.start
lacking_is_bad own m short none = lacking_bad_by m.start own m.fields short none

-- it is one with the core fields that were read
pub is_bad_with : (own : Own) (m : Message) (short : Bool) (core : CoreFields) → Some core ≡ result_ok (core_of m)
    → option_map_or is_bad (unchecked_with (Some core) own m.fields short m.start) false ≡ is_bad_request own m short
is_bad_with own m short core is_core = ap (λ (c : Option CoreFields). option_map_or is_bad (unchecked_with c own m.fields short m.start) false) is_core
