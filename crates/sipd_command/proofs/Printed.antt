-- What is printed of a server, handed on from who serves to who starts it.
use Rattle.std.proofs.Common.{◌≡◌, ℕ, List, Option, Some, None, Result, Ok, Err, IfSome, OnOk, refl, subst}
use Rattle.sip_audit.specs.declared.record.Record.{Record}
use Rattle.sip_uri.specs.declared.addr.Addr.{Addr}
use Rattle.sipd_service.specs.Printing.{PrintsServed}
use Rattle.sipd_command.specs.Starts.{PrintsAt, PrintsFor, PrintsSomewhere}

pub prints_for : {V E : Type 0} (result : Result V E) (turns : Option ℕ) (address : Addr) (decided : List Record) (old new : Option (List ℕ))
    → IfSome turns (λ n. OnOk result (PrintsServed address decided n old new)) → OnOk result (PrintsFor turns address decided old new)
prints_for (Ok v) None address decided old new h = tt
prints_for (Ok v) (Some n) address decided old new h = h
prints_for (Err e) turns address decided old new h = tt

-- the same number, address and records by other names
same_prints : (turns asked : Option ℕ) (address bound : Addr) (decided before : List Record) (old new : Option (List ℕ)) → turns ≡ asked → address ≡ bound
    → decided ≡ before → PrintsFor turns address decided old new → PrintsFor asked bound before old new
same_prints turns asked address bound decided before old new e f d h =
    subst (λ (t : Option ℕ). PrintsFor t bound before old new) e
    (subst (λ (a : Addr). PrintsFor turns a before old new) f (subst (λ (r : List Record). PrintsFor turns address r old new) d h))

pub prints_as : {V E : Type 0} (result : Result V E) (turns asked : Option ℕ) (address bound : Addr) (decided before : List Record) (old new : Option (List ℕ))
    → turns ≡ asked → address ≡ bound → decided ≡ before
    → OnOk result (PrintsFor turns address decided old new) → OnOk result (PrintsFor asked bound before old new)
prints_as (Ok v) turns asked address bound decided before old new e f d h = same_prints turns asked address bound decided before old new e f d h
prints_as (Err x) turns asked address bound decided before old new e f d h = tt

pub prints_at : {V E : Type 0} (result : Result V E) (turns asked : Option ℕ) (address bound : Addr) (decided : List Record) (old new : Option (List ℕ))
    → turns ≡ asked → address ≡ bound → OnOk result (PrintsFor turns address decided old new) → OnOk result (PrintsAt asked bound old new)
prints_at (Ok v) turns asked address bound decided old new e f h =
    record { decided = decided; printed = same_prints turns asked address bound decided decided old new e f refl h }
prints_at (Err x) turns asked address bound decided old new e f h = tt

pub prints_somewhere : {V E : Type 0} (result : Result V E) (turns : Option ℕ) (address : Addr) (old new : Option (List ℕ))
    → OnOk result (PrintsAt turns address old new) → OnOk result (PrintsSomewhere turns old new)
prints_somewhere (Ok v) turns address old new h = record { address = address; there = h }
prints_somewhere (Err x) turns address old new h = tt

pub prints_first : {V E : Type 0} (result : Result V E) (turns : Option ℕ) (address : Addr) (decided : List Record) (old new : Option (List ℕ))
    → OnOk result (PrintsFor turns address decided old new) → OnOk result (PrintsSomewhere turns old new)
prints_first (Ok v) turns address decided old new h = record { address = address; there = record { decided = decided; printed = h } }
prints_first (Err x) turns address decided old new h = tt
