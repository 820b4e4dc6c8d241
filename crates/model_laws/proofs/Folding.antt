-- What a history bound, and which nonces it knows, is by the configurations of its own steps.
use Rattle.std.proofs.Common.{◌≡◌, ◌∙◌, List, [], ◌∷◌, ◌++◌, refl, ap}
use Rattle.std.specs.Option.{option_to_list, option_map_or}
use Rattle.sip_location.specs.declared.binding.Binding.{Binding}
use Rattle.sip_digest.specs.declared.nonces.Nonce.{Nonce}
use Rattle.sip_config_types.specs.declared.config.Config.{Config}
use Rattle.sip_model.specs.state.declared.server.Server.{Server}
use Rattle.sip_model.specs.Run.{Link, under}
use Rattle.sip_model.specs.Bindings.{Arrived, after_register, bindings_by, allowed_at, allowed_registers, bindings_after}
use Rattle.sip_model.specs.Histories.{nonces_by, judged_at, nonces_after}

module _ (server : Server) (config : Config) where
  -- the REGISTERs that were let through
  registers_keep : (history : List Link) → allowed_registers (under server config) history ≡ allowed_registers server history
  registers_keep [] = refl
  registers_keep (link ∷ history) =
      ap (λ (rs : List Arrived). option_to_list (allowed_at (under server link.config) link.before link.act) ++ rs) (registers_keep history)

  -- what some make of the bindings
  bound_alike : (registers : List Arrived) → bindings_by (under server config) registers ≡ bindings_by server registers
  bound_alike [] = refl
  bound_alike (r ∷ earlier) = ap (λ (rows : List Binding). after_register server r rows) (bound_alike earlier)

  -- the bindings
  pub bindings_keep : (history : List Link) → bindings_after (under server config) history ≡ bindings_after server history
  bindings_keep history = ap (λ (rs : List Arrived). bindings_by (under server config) rs) (registers_keep history) ∙ bound_alike (allowed_registers server history)

  -- the nonces
  pub nonces_keep : (history : List Link) → nonces_after (under server config) history ≡ nonces_after server history
  nonces_keep [] = refl
  nonces_keep (link ∷ history) =
      ap (λ (rows : List Nonce). option_map_or (nonces_by rows) (judged_at (under server link.config) link.before link.act) rows) (nonces_keep history)
