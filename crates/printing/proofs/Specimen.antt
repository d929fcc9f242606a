-- The specimen's bytes have the text that 01 prints. Assumes nothing.
use mathlib.Core.Path.{◌≡◌, refl, sym, ◌∙◌, ap, subst}
use mathlib.Core.Bool.{true, false}
use mathlib.Core.List.{List, [], ◌∷◌, ◌++◌}
use Prim.Native.Nat.{ℕ, ◌<◌}
use native.Mathlib.Omega.{arith}
use lib.ListN.{length}
use Rattle.io.specs.Digits.{last_digits, IsDigitCount}
use Rattle.numeric.specs.Choice.{if_eq, if_le, if_lt}
use Rattle.numeric.specs.Share.{share_of, split_of}
use Rattle.numeric.specs.Greatest.{greatest}
use Rattle.log2.specs.Logarithm.{logarithm}
use Rattle.probit.specs.Table.{probit_table}
use Rattle.probit.specs.Chance.{greatest_chance, chance_of}
use Rattle.terms.specs.Terms.{by_kind}
use Rattle.people.specs.Death.{fire_probit_by, setting_share, fire_death_by, flash_death, blast_death, death_by}
use Rattle.equipment.specs.Damage.{blast_row_of, blast_probit_by, blast_damage_by, heat_probit_by, heat_damage_by, sphere_probit_by, sphere_damage_by, fire_chance_by, fire_judged, fire_damage_by, damage_by}
use Rattle.vulnerability.specs.Effect.{effect_by}
use Rattle.vulnerability.specs.Domino.{listed_by}
use Rattle.state.specs.declared.Totals.{Totals}
use Rattle.state.specs.declared.TargetReport.{TargetReport}
use Rattle.model.specs.Sums.{sum_over, some, join_over}
use Rattle.model.specs.Format.{bytes, encode, target_records, effect_records, tree_records, scenario_records, leaks_of, open_records, count_of, records_of, bytes_of}
use Rattle.model.specs.Outcomes.{tree_outcomes, scenario_outcomes, outcomes_of}
use Rattle.model.specs.Report.{judgement, kind_total, over_effects, unjudged_of, sum_at, margin_at, grade_of, listed_at}
use Rattle.model.specs.Calls.{Bytes, totals_of, target_report_of}
use Rattle.model.specs.Instances.{specimen, specimen_bytes}
use Rattle.model.proofs.ListLaws.{each_join}
use Rattle.model.proofs.CodecLaws.{encode_bytes}
use Rattle.model.proofs.Instances.{specimen_holds}
use Rattle.lines.specs.Text.{decimal, study_word, records_word, leaks_word, kind_word, space_word, target_word, sum_word, margin_word, grade_word, domino_word, unjudged_word, end_word, study_line, kind_line, judged_words, target_line, unjudged_line}
use Rattle.lines.proofs.NumeralLaws.{decimal_is}
use Rattle.printing.specs.Report.{kind_lines, target_lines, closed_lines}
use Rattle.printing.specs.Prints.{report_text}
use Rattle.printing.specs.Specimen.{codes, specimen_text, SpecimenPrints}
use Rattle.printing.proofs.PrintLaws.{prints}

-- a number of k digits
shown : (n k : ℕ) → IsDigitCount 10 1 n k → decimal n ≡ last_digits 10 k n
shown n k w = sym (decimal_is n k w)

-- each line, with the digits of its numbers
study_text : (t : Totals) {a b c : List ℕ} → decimal t.study ≡ a → decimal t.records ≡ b → decimal t.leaks ≡ c
    → study_line t ≡ study_word ++ a ++ records_word ++ b ++ leaks_word ++ c ++ end_word
unfolding study_line
study_text t x y z = λ i. study_word ++ x i ++ records_word ++ y i ++ leaks_word ++ z i ++ end_word

kind_text : (k v : ℕ) {a b : List ℕ} → decimal k ≡ a → decimal v ≡ b → kind_line k v ≡ kind_word ++ a ++ space_word ++ b ++ end_word
unfolding kind_line
kind_text k v x y = λ i. kind_word ++ x i ++ space_word ++ y i ++ end_word

target_text : (t : ℕ) (r : TargetReport) {a b c d : List ℕ} → decimal t ≡ a → decimal r.sum ≡ b → decimal r.margin ≡ c → judged_words r ≡ d
    → target_line t r ≡ target_word ++ a ++ sum_word ++ b ++ margin_word ++ c ++ d ++ end_word
unfolding target_line
target_text t r x y z w = λ i. target_word ++ x i ++ sum_word ++ y i ++ margin_word ++ z i ++ w i ++ end_word

unjudged_text : (u : ℕ) {a : List ℕ} → decimal u ≡ a → unjudged_line u ≡ unjudged_word ++ a ++ end_word
unfolding unjudged_line
unjudged_text u x = λ i. unjudged_word ++ x i ++ end_word

-- the specimen's reports
abbrev seven_totals : Totals
seven_totals =
    record {
      number = 0;
      place = 98;
      study = 7;
      records = 13;
      leaks = 100000000;
      kinds = 67500000 ∷ 0 ∷ 10000000 ∷ 0 ∷ 0 ∷ 22500000 ∷ [];
      unjudged = 0;
      targets = 2;
    }

abbrev houses : TargetReport
houses = record { number = 0; place = 98; sum = 600000; margin = 5; class = 0; grade = 1; listed = false }

abbrev vessel : TargetReport
vessel = record { number = 0; place = 98; sum = 16200000; margin = 3; class = 1; grade = 0; listed = true }

reports_are : (totals_of (length (bytes_of specimen)) specimen ≡ seven_totals)
    × (target_report_of (length (bytes_of specimen)) specimen 0 ≡ houses) × (target_report_of (length (bytes_of specimen)) specimen 1 ≡ vessel)
unfolding if_eq if_le if_lt share_of split_of greatest logarithm probit_table greatest_chance chance_of by_kind fire_probit_by setting_share fire_death_by flash_death blast_death death_by blast_row_of blast_probit_by blast_damage_by heat_probit_by heat_damage_by sphere_probit_by sphere_damage_by fire_chance_by fire_judged fire_damage_by damage_by effect_by listed_by sum_over some join_over bytes encode target_records effect_records tree_records scenario_records leaks_of open_records count_of records_of bytes_of tree_outcomes scenario_outcomes outcomes_of judgement kind_total over_effects unjudged_of sum_at margin_at grade_of listed_at totals_of target_report_of specimen
reports_are = (refl, refl, refl)

houses_words : judged_words houses ≡ grade_word ++ last_digits 10 1 1
unfolding judged_words if_eq
houses_words = λ i. grade_word ++ shown 1 1 (omega arith) i

vessel_words : judged_words vessel ≡ domino_word
unfolding judged_words if_eq
vessel_words = refl

lines_are : (f : ℕ → TargetReport) → f 0 ≡ houses → f 1 ≡ vessel → closed_lines f seven_totals ≡ specimen_text
unfolding closed_lines kind_lines target_lines codes specimen_text
lines_are f e g =
    let s = study_text seven_totals (shown 7 1 (omega arith)) (shown 13 2 (omega arith)) (shown 100000000 9 (omega arith)) in
    let k : (n v d : ℕ) → IsDigitCount 10 1 n 1 → IsDigitCount 10 1 v d → kind_line n v ≡ kind_word ++ last_digits 10 1 n ++ space_word ++ last_digits 10 d v ++ end_word =
    λ n v d x y. kind_text n v (shown n 1 x) (shown v d y) in
    let a = ap (target_line 0) e ∙ target_text 0 houses (shown 0 1 (omega arith)) (shown 600000 6 (omega arith)) (shown 5 1 (omega arith)) houses_words in
    let b = ap (target_line 1) g ∙ target_text 1 vessel (shown 1 1 (omega arith)) (shown 16200000 8 (omega arith)) (shown 3 1 (omega arith)) vessel_words in
    let u = unjudged_text 0 (shown 0 1 (omega arith)) in
    λ i.
    s i ∷ k 0 67500000 8 (omega arith) (omega arith) i ∷ k 1 0 1 (omega arith) (omega arith) i ∷ k 2 10000000 8 (omega arith) (omega arith) i
    ∷ k 3 0 1 (omega arith) (omega arith) i ∷ k 4 0 1 (omega arith) (omega arith) i ∷ k 5 22500000 8 (omega arith) (omega arith) i ∷ a i ∷ b i ∷ u i ∷ []

specimen_text_lem : report_text specimen ≡ specimen_text
specimen_text_lem =
    ap (closed_lines (target_report_of (length (bytes_of specimen)) specimen)) reports_are.0 ∙ lines_are _ reports_are.1 reports_are.2

specimen_bytes_lem : Bytes (bytes_of specimen)
unfolding bytes_of
specimen_bytes_lem = each_join (λ (n : ℕ). n < 256) encode (records_of specimen) encode_bytes

pub specimen_prints : SpecimenPrints
specimen_prints t k = (prints specimen_bytes t k (subst Bytes specimen_holds.bytes specimen_bytes_lem)).report specimen specimen_holds.valid (sym specimen_holds.bytes) ∙ specimen_text_lem
