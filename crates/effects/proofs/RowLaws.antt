-- The figures of a target after an effect, a mark on no place of people, and a store of what stands at a place already. Assumes nothing.
use mathlib.Core.Path.{◌≡◌, refl, sym, ◌∙◌, ap}
use mathlib.Core.Bool.{true}
use mathlib.Core.List.{List}
use Prim.Native.Nat.{ℕ, ◌+◌, ◌<◌, ◌≤◌}
use lib.ListN.{get_or, set}
use lib.Seq.{set-get_or}
use Rattle.numeric.specs.Choice.{pick}
use Rattle.numeric.specs.Share.{share_of}
use Rattle.numeric.proofs.ChoiceLaws.{lt_both, lt_case, ge_case, eq_case}
use Rattle.state.specs.declared.Branch.{Branch}
use Rattle.terms.specs.declared.Judged.{Judged}
use Rattle.terms.specs.declared.Target.{Target}
use Rattle.model.specs.Machine.{up_to, most32, most64, store, fetch, unpacked_facts, marked_facts, row_of, row_after}
use Rattle.effects.specs.Judging.{Judge, effect_at}
use Rattle.effects.specs.Steps.{Added}
use Rattle.effects.proofs.ZeroLaws.{zero_sum, zero_facts}

pub store_same : (n : ℕ) (l : List ℕ) (i v : ℕ) → v ≡ get_or l i 0 → l ≡ store n l i v
unfolding store
store_same n l i v e = rw e (lt_both (λ (x : List ℕ). l ≡ x) i n _ l (sym (set-get_or l i 0)) refl)

-- nothing is stored past the end
store_past : (n : ℕ) (l : List ℕ) (i v : ℕ) → n ≤ i → l ≡ store n l i v
unfolding store
store_past n l i v h = ge_case _ _ _ _ h refl

fetched : (f : List ℕ) (i : ℕ) → i < 256 → get_or f i 0 ≡ fetch 256 f i
unfolding fetch
fetched f i h = lt_case _ _ _ _ h refl

-- a target that has a row, its facts, and its margin grown
module _ (judge : Judge) (b : Branch) (i q d : ℕ) (s m f : List ℕ) (row : i < 256) {u : Target} (known : u ≡ unpacked_facts (get_or f i 0)) {x : ℕ} (grown : x ≡ up_to most32 (get_or m i 0) (b.above + 1)) where
  abbrev here : Judged
  here = judge u b.kind q d

  here_is : here ≡ effect_at judge f b.kind i q d
  here_is = rw (← fetched f i row, known) refl

  stored : (l : List ℕ) {v w : ℕ} → v ≡ w → set l i v ≡ store 256 l i w
  unfolding store
  stored l e = lt_case _ _ _ _ row (rw e refl)

  pub added : {c missed : ℕ} {s' f' : List ℕ} → c ≡ here.chance → missed ≡ pick here.judged 0 1 → s' ≡ set s i (up_to most64 (get_or s i 0) (share_of b.frequency c)) → f' ≡ set f i (marked_facts (get_or f i 0) c b.leak)
      → Added judge b i q d s m f missed s' (set m i x) f'
  unfolding row_after
  added e j es ef =
      record {
        judging = rw (← here_is) j;
        sums = rw (← here_is, ← e) (es ∙ stored s refl);
        margins = stored m grown;
        facts = rw (← here_is, ← e) (ef ∙ stored f refl);
      }

  -- one whose chance is 0: the margin alone grows
  pub spared : {missed : ℕ} → 0 ≡ here.chance → missed ≡ pick here.judged 0 1 → get_or s i 0 ≤ most64 → Added judge b i q d s m f missed s (set m i x) f
  unfolding row_after
  spared e j w =
      record {
        judging = rw (← here_is) j;
        sums = rw (← here_is, ← e) (store_same 256 _ _ _ (zero_sum (row_of s m f i) b 0 refl w));
        margins = stored m grown;
        facts = rw (← here_is, ← e) (store_same 256 _ _ _ (zero_facts (row_of s m f i) b 0 refl));
      }

-- a place of people is not marked
pub people_unmarked : (f : List ℕ) (i c leak : ℕ) {u : Target} → u ≡ unpacked_facts (get_or f i 0) → u.class ≡ 0 → f ≡ set f i (marked_facts (get_or f i 0) c leak)
unfolding unpacked_facts marked_facts
people_unmarked f i c leak known z = rw (← eq_case _ _ _ _ (ap (λ (t : Target). t.class) (sym known) ∙ z) refl) (sym (set-get_or f i 0))

-- a target that has none counts as a place of people, on which every effect is judged
abbrev pub JudgesPeople : Judge → Type 0
JudgesPeople judge = (u : Target) (k q d : ℕ) → u.class ≡ 0 → true ≡ (judge u k q d).judged

pub past_added : (judge : Judge) → JudgesPeople judge → (b : Branch) (i q d : ℕ) (s m f : List ℕ) → 256 ≤ i → Added judge b i q d s m f 0 s m f
unfolding fetch unpacked_facts
past_added judge judges b i q d s m f h =
    let e : 0 ≡ fetch 256 f i = ge_case _ _ _ _ h refl in
    let w : true ≡ (effect_at judge f b.kind i q d).judged = judges _ _ _ _ (rw (← e) refl) in
    record {
      judging = rw (← w) refl;
      sums = store_past 256 s i _ h;
      margins = store_past 256 m i _ h;
      facts = store_past 256 f i _ h;
    }
