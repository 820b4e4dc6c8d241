use Rattle.std.proofs.Common.{◌≡◌, ◌++◌, ◌∷◌, [], rules}
use Rattle.sip_message.proofs.Keeps.{item_kept}
use Rattle.sip_message.proofs.keeping.keep_list.Goals as goal

pub returns-then-is_one_item : goal.returns-then-is_one_item
returns-then-is_one_item c =
    let n : c.push.new.self.items ≡ c.args.fields.now.items ++ c.args.field ∷ [] = search rules in
    item_kept c.args.fields.now.items c.args.field c.push.new.self.items c.as_slice.result.now c.requires.not_length c.requires.list c.as_slice.ensures
    (c.is_one_item.ensures c.if-is_one_item.true) n
