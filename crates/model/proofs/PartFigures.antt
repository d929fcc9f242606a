-- The figures of a list of outcomes, of which the last may have part of its effects. Assumes nothing.
use mathlib.Core.Path.{◌≡◌, refl, sym, ◌∙◌, ap}
use mathlib.Core.Bool.{Bool, true, false}
use mathlib.Core.List.{List, [], ◌∷◌, ◌++◌}
use Prim.Native.Nat.{ℕ, ◌+◌}
use native.Mathlib.Omega.{arith}
use Rattle.numeric.specs.Choice.{pick, if_eq}
use Rattle.numeric.specs.Share.{share_of}
use Rattle.terms.specs.Terms.{people}
use Rattle.vulnerability.specs.Domino.{listed_by}
use Rattle.model.specs.Sums.{sum_over, some}
use Rattle.model.specs.Content.{facts, Effect, target_of, Content}
use Rattle.model.specs.Outcomes.{Outcome, above}
use Rattle.model.specs.Report.{target_at, judgement, over_effects, naming}
use Rattle.model.proofs.ListLaws.{sum_append, sum_same}

-- the total of a kind, and what an effect adds to the unjudged, to a target's sum and to its margin
abbrev pub kind_over : ℕ → List Outcome → ℕ
kind_over k os = sum_over (λ o. if_eq o.kind k o.frequency 0) os

abbrev pub unjudged_by : Content → Outcome → Effect → ℕ
unjudged_by c o e = pick (judgement c o e).judged 0 1

abbrev pub sum_by : Content → ℕ → Outcome → Effect → ℕ
sum_by c t = naming t (λ o e. share_of o.frequency (judgement c o e).chance)

abbrev pub margin_by : ℕ → Outcome → Effect → ℕ
margin_by t = naming t (λ o e. above o + 1)

-- whether an effect lists a target, and whether one of the outcomes does
abbrev pub listing : Content → ℕ → Outcome → Effect → Bool
listing c t o e = if_eq (target_of e) t (listed_by (judgement c o e).chance o.leak) false

abbrev pub listed_over : Content → ℕ → List Outcome → Bool
listed_over c t os = if_eq (facts (target_at c t)).class people false (some (λ o. some (listing c t o) o.effects) os)

pub or_none : (u : Bool) → pick u true false ≡ u
or_none true = refl
or_none false = refl

module _ {A : Type 0} (f : A → Bool) where
  -- a test holds at some element of two lists where it does at some element of the first or of the second
  pub some_append : (a b : List A) → some f (a ++ b) ≡ pick (some f a) true (some f b)
  unfolding some
  some_append [] b = refl
  some_append (x ∷ a) b = go (f x) (some_append a b)
    where
      go : (u : Bool) → some f (a ++ b) ≡ pick (some f a) true (some f b)
          → pick u true (some f (a ++ b)) ≡ pick (pick u true (some f a)) true (some f b)
      go true e = refl
      go false e = e

  pub some_one : (x : A) → some f (x ∷ []) ≡ f x
  unfolding some
  some_one x = or_none (f x)

or_assoc : (u v w : Bool) → pick u true (pick v true w) ≡ pick (pick u true v) true w
or_assoc true v w = refl
or_assoc false v w = refl

-- the last outcome, with those of its effects that have been read
module _ (kind leak f w : ℕ) (path : List ℕ) where
  abbrev pub partly : List Effect → Outcome
  partly es = record { kind = kind; effects = es; leak = leak; frequency = f; weight = w; path = path }

  module _ (os : List Outcome) where
    abbrev pub up_to_now : List Effect → List Outcome
    up_to_now es = os ++ (partly es ∷ [])

    -- the kind's total counts it at once
    pub kind_begun : (k : ℕ) (es : List Effect) → kind_over k (up_to_now es) ≡ kind_over k os + if_eq kind k f 0
    unfolding sum_over
    kind_begun k es = let e = sum_append (λ (o : Outcome). if_eq o.kind k o.frequency 0) os (partly es ∷ []) in omega arith

    -- a figure over the effects
    module _ (g : Outcome → Effect → ℕ) where
      over_split : (es : List Effect) → over_effects g (up_to_now es) ≡ over_effects g os + sum_over (g (partly es)) es
      unfolding over_effects sum_over
      over_split es = let e = sum_append (λ (o : Outcome). sum_over (g o) o.effects) os (partly es ∷ []) in omega arith

      pub effects_begun : over_effects g (up_to_now []) ≡ over_effects g os
      unfolding sum_over
      effects_begun = let e = over_split [] in omega arith

      pub effects_grown : (h : Effect → ℕ) → ((es : List Effect) (e : Effect) → g (partly es) e ≡ h e)
          → (done : List Effect) (e : Effect) → over_effects g (up_to_now (done ++ (e ∷ []))) ≡ over_effects g (up_to_now done) + h e
      unfolding sum_over
      effects_grown h same done e =
          let all : List Effect = done ++ (e ∷ []) in
          let a = over_split done in
          let b = over_split all in
          let x = sum_same (g (partly done)) h done (λ y m. same done y) in
          let y = sum_same (g (partly all)) h all (λ y m. same all y) in
          let z = sum_append h done (e ∷ []) in
          omega arith

    -- a test of the effects
    module _ (g : Outcome → Effect → Bool) where
      some_split : (es : List Effect)
          → some (λ o. some (g o) o.effects) (up_to_now es) ≡ pick (some (λ o. some (g o) o.effects) os) true (some (g (partly es)) es)
      some_split es =
          some_append (λ (o : Outcome). some (g o) o.effects) os (partly es ∷ [])
          ∙ ap (λ (b : Bool). pick (some (λ o. some (g o) o.effects) os) true b) (some_one (λ (o : Outcome). some (g o) o.effects) (partly es))

      pub some_begun : some (λ o. some (g o) o.effects) (up_to_now []) ≡ some (λ o. some (g o) o.effects) os
      unfolding some
      some_begun = some_split [] ∙ or_none (some (λ o. some (g o) o.effects) os)

      pub some_grown : (h : Effect → Bool) → ((es : List Effect) → g (partly es) ≡ h)
          → (done : List Effect) (e : Effect)
          → some (λ o. some (g o) o.effects) (up_to_now (done ++ (e ∷ []))) ≡ pick (some (λ o. some (g o) o.effects) (up_to_now done)) true (h e)
      some_grown h same done e =
          let all : List Effect = done ++ (e ∷ []) in
          let before : Bool = some (λ o. some (g o) o.effects) os in
          some_split all
          ∙ ap (λ (p : Effect → Bool). pick before true (some p all)) (same all)
          ∙ ap (λ (b : Bool). pick before true b) (some_append h done (e ∷ []) ∙ ap (λ (b : Bool). pick (some h done) true b) (some_one h e))
          ∙ or_assoc before (some h done) (h e)
          ∙ ap (λ (b : Bool). pick b true (h e)) (sym (some_split done ∙ ap (λ (p : Effect → Bool). pick before true (some p done)) (same done)))
