use Rattle.std.proofs.Common.{rules, length, find, option_map, ◌<◌, ◌∙◌, sym, ap}
use Rattle.sip_hops.specs.declared.host_address.HostAddress.{HostAddress}
use Rattle.sip_hops.specs.HostAddress.{is_row_for}
use Rattle.sip_hops.proofs.Chains.{arrived, row_found, next_is_there, next_on_the_way, next_is_fewer, no_row}
use Rattle.sip_hops.proofs.address_table.AddressTable.find.Goals as goal

pub offset_bounds-rows-at : goal.offset_bounds-rows-at
offset_bounds-rows-at c =
    let here = arrived c.as_slice-rows.result.now c.args.host.now c.args.port c.loop-place.place c.in-Some.at c.in-Some.is c.loop-place.invariant in
    let lt : c.in-Some.at < length c.as_slice-rows.result.now = here.within in
    search rules

pub bounds-rows-at : goal.bounds-rows-at
bounds-rows-at c = (arrived c.as_slice-rows.result.now c.args.host.now c.args.port c.loop-place.place c.in-Some.at c.in-Some.is c.loop-place.invariant).within

pub returns-then-is_row_for : goal.returns-then-is_row_for
returns-then-is_row_for c =
    let found = row_found c.as_slice-rows.result.now c.self.inside.rows c.self.inside.nexts.items c.args.host.now c.args.port c.loop-place.place c.in-Some.at
    c.index-rows-at.result
    (record {
      rows_are = c.as_slice-rows.ensures;
      leads = c.self.invariant.leads;
      as_many = c.self.invariant.as_many;
      is = c.in-Some.is;
      way = c.loop-place.invariant;
      row_is = c.index-rows-at.is;
    })
    (sym c.is_row_for.ensures ∙ c.if-is_row_for.true) in
    sym (ap (λ o. option_map (λ (row : HostAddress). row.address) o) (ap (find (is_row_for c.args.host.now c.args.port)) (sym c.self.view_is) ∙ found))

pub index-place-requires : goal.index-place-requires
index-place-requires c =
    let lt : c.in-Some.at < length c.self.inside.nexts.items = next_is_there c.as_slice-rows.result.now c.self.inside.rows c.self.inside.nexts.items c.args.host.now
    c.args.port c.loop-place.place c.in-Some.at c.index-rows-at.result
    (record {
      rows_are = c.as_slice-rows.ensures;
      leads = c.self.invariant.leads;
      as_many = c.self.invariant.as_many;
      is = c.in-Some.is;
      way = c.loop-place.invariant;
      row_is = c.index-rows-at.is;
    }) in
    search rules

pub loop-place-smaller : goal.loop-place-smaller
loop-place-smaller c =
    next_is_fewer c.as_slice-rows.result.now c.self.inside.rows c.self.inside.nexts.items c.args.host.now c.args.port c.loop-place.place c.in-Some.at
    c.index-rows-at.result c.index-place.result.now
    (record {
      rows_are = c.as_slice-rows.ensures;
      leads = c.self.invariant.leads;
      as_many = c.self.invariant.as_many;
      is = c.in-Some.is;
      way = c.loop-place.invariant;
      row_is = c.index-rows-at.is;
    })
    c.index-place.ensures

pub loop-place-preserved : goal.loop-place-preserved
loop-place-preserved c =
    next_on_the_way c.as_slice-rows.result.now c.self.inside.rows c.self.inside.nexts.items c.args.host.now c.args.port c.loop-place.place c.in-Some.at
    c.index-rows-at.result c.index-place.result.now
    (record {
      rows_are = c.as_slice-rows.ensures;
      leads = c.self.invariant.leads;
      as_many = c.self.invariant.as_many;
      is = c.in-Some.is;
      way = c.loop-place.invariant;
      row_is = c.index-rows-at.is;
    })
    (sym c.is_row_for.ensures ∙ c.if-is_row_for.false) c.index-place.ensures

pub returns : goal.returns
returns c =
    let gone = no_row c.as_slice-rows.result.now c.self.inside.rows c.args.host.now c.args.port c.loop-place.place c.as_slice-rows.ensures c.in_default.is
    c.loop-place.invariant in
    sym (ap (λ o. option_map (λ (row : HostAddress). row.address) o) (ap (find (is_row_for c.args.host.now c.args.port)) (sym c.self.view_is) ∙ gone))
