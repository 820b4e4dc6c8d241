-- Where bytes of their own stand.
use Rattle.std.specs.Prelude.{ℕ, List}
use Rattle.sip_text.specs.declared.store.Store.{Store}
use Rattle.sip_text.specs.declared.store.Store.TheVariants.{Inside, Outside}

-- the bytes
abbrev pub stored : Store → List ℕ
stored (Inside few) = few
stored (Outside block) = block.items
