use Rattle.std.proofs.Common.{List, ℕ, [], ◌++◌, ◌∙◌, refl, ap, flat_map, option_map}
use Rattle.std.specs.Prelude.{codes, decimal}
use Rattle.std.specs.Option.{option_and_then, option_to_list}
use Rattle.sip_message_fields.specs.declared.field_name.FieldName.TheVariants as Name
use Rattle.sip_message_fields.specs.Named.{all_named, first_named, first_of}
use Rattle.sip_message_form.specs.declared.message.Start.{Start}
use Rattle.sip_message_form.specs.Text.{field_text}
use Rattle.sip_route.specs.header.CSeq.{cseq_of}
use Rattle.sip_route.specs.RoutesKept.{fields_kept}
use Rattle.sip_route.specs.Way.{request_uri}
use Rattle.sip_edit.specs.Onward.{with_uri}
use Rattle.sip_edit.specs.OwnRequests.{cseq_with}
use Rattle.sip_edit.specs.OwnVia.{branch_text, own_via}
use Rattle.sip_edit.specs.OwnRequestText.{front_text}
use Rattle.sip_edit.proofs.BesideTexts.{whole_is}
use Rattle.sip_edit.proofs.own_request_text.text_beside.Goals as goal

pub returns : goal.returns
returns c =
    let method : List ℕ = c.args.method.now in
    let via : List ℕ = own_via c.args.own.now (branch_text c.args.boot c.args.branch.number c.args.branch.target) in
    let front : List ℕ = front_text method c.target_uri-uri.result.now via in
    let from : List ℕ = flat_map field_text (first_of Name.From c.args.came.now.fields) in
    let to : List ℕ = flat_map field_text (option_to_list (option_map (λ f. f.now) c.args.to)) in
    let call_id : List ℕ = flat_map field_text (first_of Name.CallId c.args.came.now.fields) in
    let cseq : List ℕ = flat_map field_text (cseq_with method (option_and_then cseq_of (option_map (λ v. v.now) c.first.result))) in
    let routes : List ℕ = flat_map field_text (all_named Name.Route (fields_kept c.args.routes c.args.came.now.fields)) in
    c.into_bytes.ensures ∙ c.in_ok-put_body.ensures
    ∙ ap (λ (w : List ℕ). w ++ codes "Content-Length: " ++ decimal 0 ++ codes "\r\n\r\n" ++ []) (
    c.in_ok-put_routes_left.ensures ∙ ap (λ (w : List ℕ). w ++ routes) (
    c.in_ok-put_cseq.ensures ∙ ap (λ (w : List ℕ). w ++ cseq) (
    c.in_ok-put_first-2.ensures ∙ ap (λ (w : List ℕ). w ++ call_id) (
    c.in_ok-put_given.ensures ∙ ap (λ (w : List ℕ). w ++ to) (
    c.in_ok-put_first.ensures ∙ ap (λ (w : List ℕ). w ++ from) (
    c.in_ok-put_front.ensures ∙ ap (λ (w : List ℕ). w ++ front) c.in_ok-out.ensures
    )))))
    )
    ∙ whole_is method c.args.uri.now c.target_uri-uri.result.now via (option_to_list (option_map (λ f. f.now) c.args.to)) (first_named Name.From c.args.came.now.fields)
    (first_named Name.CallId c.args.came.now.fields) (option_map (λ v. v.now) c.first.result) c.args.routes c.args.came.now
    refl
    refl
    c.first.ensures
    (c.target_uri-uri.ensures ∙ ap (λ (s : Start). request_uri (with_uri c.args.uri.now s)) c.start.ensures)
