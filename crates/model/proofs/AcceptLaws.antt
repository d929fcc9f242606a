-- Records are taken exactly when the order allows each, each keeps its own rules and their number is in its bound. Assumes nothing.
use mathlib.Core.Path.{◌≡◌}
use mathlib.Core.List.{List, [], ◌∷◌, ◌++◌}
use Prim.Native.Nat.{◌+◌, ◌≤◌}
use native.Mathlib.Omega.{arith}
use lib.ListN.{length}
use Rattle.model.specs.Bounds.{most_records}
use Rattle.model.specs.Format.{Record}
use Rattle.model.specs.Faults.{Context, own_fault, context_after, context_after_all}
use Rattle.model.specs.MachineTheorems.{AllAllowed}
use Rattle.model.proofs.Accepts.{Accepts}
use Rattle.model.proofs.FaultLaws.{fault_facts, fault_free}
use Rattle.model.proofs.ContextLaws.{record_counted}

-- each record keeps the rules of its own kind
unfoldable pub AllOwn : Context → List Record → Type 0
AllOwn x [] = Unit {0}
AllOwn x (r ∷ rs) = (own_fault x r ≡ 0) × AllOwn (context_after x r) rs

pub accepts_from : (x : Context) (rs : List Record) → AllAllowed x rs → AllOwn x rs → x.counts.records + length rs ≤ most_records → Accepts x rs
unfolding Accepts AllAllowed AllOwn
accepts_from x [] a o h = tt
accepts_from x (r ∷ rs) a o h =
    let c = record_counted x r in
    (fault_free x r (record { order = a.0; few = omega arith; own = o.0 }), a.1, accepts_from (context_after x r) rs a.2 o.1 (omega arith))

pub accepts_order : (x : Context) (rs : List Record) → Accepts x rs → AllAllowed x rs
unfolding Accepts AllAllowed
accepts_order x [] a = tt
accepts_order x (r ∷ rs) a = ((fault_facts x r a.0).order, a.1, accepts_order (context_after x r) rs a.2)

pub accepts_own : (x : Context) (rs : List Record) → Accepts x rs → AllOwn x rs
unfolding Accepts AllOwn
accepts_own x [] a = tt
accepts_own x (r ∷ rs) a = ((fault_facts x r a.0).own, accepts_own (context_after x r) rs a.2)

-- joined lists
pub allowed_append : (x : Context) (a b : List Record) → AllAllowed x a → AllAllowed (context_after_all x a) b → AllAllowed x (a ++ b)
unfolding AllAllowed context_after_all
allowed_append x [] b h i = i
allowed_append x (r ∷ a) b h i = (h.0, h.1, allowed_append (context_after x r) a b h.2 i)

pub allowed_parts : (x : Context) (a b : List Record) → AllAllowed x (a ++ b) → AllAllowed x a × AllAllowed (context_after_all x a) b
unfolding AllAllowed context_after_all
allowed_parts x [] b h = (tt, h)
allowed_parts x (r ∷ a) b h = let w = allowed_parts (context_after x r) a b h.2 in ((h.0, h.1, w.0), w.1)

pub own_append : (x : Context) (a b : List Record) → AllOwn x a → AllOwn (context_after_all x a) b → AllOwn x (a ++ b)
unfolding AllOwn context_after_all
own_append x [] b h i = i
own_append x (r ∷ a) b h i = (h.0, own_append (context_after x r) a b h.1 i)

pub own_parts : (x : Context) (a b : List Record) → AllOwn x (a ++ b) → AllOwn x a × AllOwn (context_after_all x a) b
unfolding AllOwn context_after_all
own_parts x [] b h = (tt, h)
own_parts x (r ∷ a) b h = let w = own_parts (context_after x r) a b h.1 in ((h.0, w.0), w.1)
