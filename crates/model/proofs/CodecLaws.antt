-- A record and its bytes: encoding and decoding undo each other. Assumes nothing.
use mathlib.Core.Path.{◌≡◌, refl, sym, ◌∙◌, ap, ap₂, subst}
use mathlib.Core.List.{List, [], ◌∷◌, ◌++◌}
use Prim.Native.Nat.{ℕ, zero, suc, ◌+◌, ◌*◌, ◌/◌, ◌%◌, ◌^◌, ◌<◌, ◌≤◌}
use native.Mathlib.Nat.{le_of_eq, zero-lt-suc, one-le-pow, mod-lt, mod-eq_of_lt, pow-suc, pow-succ', div-one, mod-one, div-div-eq-div-mul, add-suc, suc-add, add-zero, zero-add}
use native.Mathlib.Decide.{ℕ_discrete}
use native.Mathlib.Omega.{arith}
use lib.ListN.{length, get_or, take, drop, get_or-append}
use lib.Seq.{drop-cons, take-add, take_all, get_or-append-add}
use lib.Arith.{digits_lt, digits_div, digits_mod, mod-mul}
use Rattle.numeric.specs.Choice.{if_eq}
use Rattle.numeric.proofs.ChoiceLaws.{ne_case, eq_both}
use Rattle.model.specs.Content.{given, on_curve, described, in_seconds, timed}
use Rattle.model.specs.Format.{Record, opening_rec, target_rec, leak_rec, branching_rec, outcome_rec, effect_rec, closing_rec, bytes, encode}
use Rattle.model.specs.Calls.{Bytes}
use Rattle.model.specs.Verdict.{body_length, field, decode}
use Rattle.model.proofs.ListLaws.{each_append}
use Rattle.model.proofs.Accepts.{Fits, WholeBytes}

-- the powers of 256 are positive
power_pos : (n : ℕ) → 0 < 256 ^ n
power_pos n = one-le-pow n 256 (zero-lt-suc 255)

-- a number's bytes

length_bytes : (n x : ℕ) → length (bytes n x) ≡ n
unfolding bytes
length_bytes zero x = refl
length_bytes (suc n) x = ap suc (length_bytes n _)

bytes_below : (n x : ℕ) → Bytes (bytes n x)
unfolding bytes
bytes_below zero x = tt
bytes_below (suc n) x = (mod-lt _ (zero-lt-suc 255), bytes_below n _)

-- and those of one number more
one_more_lem : (a : List ℕ) (n x : ℕ) → Bytes a → Bytes (a ++ bytes n x)
one_more_lem a n x p = each_append (λ (b : ℕ). b < 256) a (bytes n x) p (bytes_below n x)

-- the byte at place k, with m bytes after it
byte_at : (k m x : ℕ) → get_or (bytes (suc (k + m)) x) k 0 ≡ x / 256 ^ m % 256
unfolding bytes
byte_at zero m x = ap (λ (n : ℕ). x / 256 ^ n % 256) (zero-add m)
byte_at (suc k) m x = rw (suc-add k m) (byte_at k m x)

-- the first k of k + m bytes
bytes_first : (a q : List ℕ) (k m x : ℕ) → field (a ++ (bytes (k + m) x ++ q)) (length a) k ≡ x / 256 ^ m % 256 ^ k
unfolding field
bytes_first a q zero m x = sym (mod-one (x / 256 ^ m))
bytes_first a q (suc k) m x =
    ap₂ (λ (u v : ℕ). u * 256 + v) (first (bytes_first a q k (suc m) x)) next
    ∙ sym (mod-mul (x / 256 ^ m) (power_pos k) (zero-lt-suc 255))
    ∙ ap (λ (p : ℕ). x / 256 ^ m % p) (sym (pow-suc 256 k))
  where
    first : field (a ++ (bytes (k + suc m) x ++ q)) (length a) k ≡ x / 256 ^ suc m % 256 ^ k
        → field (a ++ (bytes (suc k + m) x ++ q)) (length a) k ≡ x / 256 ^ m / 256 % 256 ^ k
    first e = rw (suc-add k m, ← add-suc k m, div-div-eq-div-mul x (256 ^ m) 256, ← pow-suc 256 m) e

    next : get_or (a ++ (bytes (suc k + m) x ++ q)) (length a + k) 0 ≡ x / 256 ^ m % 256
    next =
        let h : k < length (bytes (suc k + m) x) = rw (length_bytes (suc k + m) x) (omega arith) in
        get_or-append-add a (bytes (suc k + m) x ++ q) k 0
        ∙ get_or-append (bytes (suc k + m) x) q 0 k h
        ∙ rw (suc-add k m) (byte_at k m x)

-- a number that fits is read back from its bytes
field_bytes : (a q : List ℕ) (n x : ℕ) → x < 256 ^ n → field (a ++ (bytes n x ++ q)) (length a) n ≡ x
field_bytes a q n x h =
    ap (λ (k : ℕ). field (a ++ (bytes k x ++ q)) (length a) n) (sym (add-zero n))
    ∙ bytes_first a q n 0 x
    ∙ mod-eq_of_lt (rw (div-one x) h)
    ∙ div-one x

pub decode_encode : (r : Record) → Fits r → decode (encode r) ≡ r
unfolding decode encode bytes if_eq Fits
decode_encode (opening_rec n) h = ap opening_rec (field_bytes (1 ∷ []) [] 4 n h)
decode_encode (target_rec n (described f)) h =
    let a = field_bytes (2 ∷ []) (bytes 1 f.class ++ bytes 1 f.setting ++ bytes 4 f.volume) 2 n h.0 in
    let b = field_bytes (2 ∷ bytes 2 n) (bytes 1 f.setting ++ bytes 4 f.volume) 1 f.class h.1 in
    let c = field_bytes (2 ∷ bytes 2 n ++ bytes 1 f.class) (bytes 4 f.volume) 1 f.setting h.2 in
    let d = field_bytes (2 ∷ bytes 2 n ++ bytes 1 f.class ++ bytes 1 f.setting) [] 4 f.volume h.3 in
    λ i. target_rec (a i) (described (record { class = b i; setting = c i; volume = d i }))
decode_encode (leak_rec n f) h =
    ap₂ leak_rec (field_bytes (3 ∷ []) (bytes 8 f) 4 n h.0) (field_bytes (3 ∷ bytes 4 n) [] 8 f h.1)
decode_encode (branching_rec (given p)) h = ap (λ (x : ℕ). branching_rec (given x)) (field_bytes (4 ∷ []) [] 4 p h)
decode_encode (branching_rec (on_curve c r)) h =
    ap₂ (λ (x y : ℕ). branching_rec (on_curve x y)) (field_bytes (10 ∷ []) (bytes 4 r) 1 c h.0) (field_bytes (10 ∷ bytes 1 c) [] 4 r h.1)
decode_encode (outcome_rec k n) h =
    ap₂ outcome_rec (field_bytes (5 ∷ []) (bytes 2 n) 1 k h.0) (field_bytes (5 ∷ bytes 1 k) [] 2 n h.1)
decode_encode (effect_rec (in_seconds t i d)) h =
    let a = field_bytes (6 ∷ []) (bytes 4 i ++ bytes 2 d) 2 t h.0 in
    let b = field_bytes (6 ∷ bytes 2 t) (bytes 2 d) 4 i h.1 in
    let c = field_bytes (6 ∷ bytes 2 t ++ bytes 4 i) [] 2 d h.2 in
    λ j. effect_rec (in_seconds (a j) (b j) (c j))
decode_encode (effect_rec (timed t i d u)) h =
    let a = field_bytes (8 ∷ []) (bytes 4 i ++ bytes 2 d ++ bytes 1 u) 2 t h.0 in
    let b = field_bytes (8 ∷ bytes 2 t) (bytes 2 d ++ bytes 1 u) 4 i h.1 in
    let c = field_bytes (8 ∷ bytes 2 t ++ bytes 4 i) (bytes 1 u) 2 d h.2 in
    let e = field_bytes (8 ∷ bytes 2 t ++ bytes 4 i ++ bytes 2 d) [] 1 u h.3 in
    λ j. effect_rec (timed (a j) (b j) (c j) (e j))
decode_encode (closing_rec n s) h =
    ap₂ closing_rec (field_bytes (7 ∷ []) (bytes 8 s) 4 n h.0) (field_bytes (7 ∷ bytes 4 n) [] 8 s h.1)

-- the known kinds
kind_cases : (P : ℕ → Type 0) → P 1 → P 2 → P 3 → P 4 → P 5 → P 6 → P 7 → P 8 → P 10 → (k : ℕ) → (body_length k ≡ 0 → ⊥) → P k
unfolding body_length
kind_cases P p1 p2 p3 p4 p5 p6 p7 p8 p10 k h =
    is 1 p1 (λ n1. is 2 p2 (λ n2. is 3 p3 (λ n3. is 4 p4 (λ n4. is 5 p5 (λ n5.
    is 6 p6 (λ n6. is 7 p7 (λ n7. is 8 p8 (λ n8. is 10 p10 (λ n10.
    absurd (h (sym
    (ne_case k 1 _ _ n1 (ne_case k 2 _ _ n2 (ne_case k 3 _ _ n3 (ne_case k 4 _ _ n4 (ne_case k 5 _ _ n5 (ne_case k 6 _ _ n6 (ne_case k 7 _ _ n7 (ne_case k 8 _ _ n8 (ne_case k 10 _ _ n10 refl))))))))))))))))))))
  where
    is : (n : ℕ) → P n → ((k ≡ n → ⊥) → P k) → P k
    is n p f = go (ℕ_discrete k n)
      where
        go : Dec (k ≡ n) → P k
        go (yes e) = subst P (sym e) p
        go (no e) = f e

-- what holds of the whole records of each kind holds of every whole record
whole_cases : (P : List ℕ → Type 0)
    → ((b : List ℕ) → length b ≡ 4 → P (1 ∷ b))
    → ((b : List ℕ) → length b ≡ 8 → P (2 ∷ b))
    → ((b : List ℕ) → length b ≡ 12 → P (3 ∷ b))
    → ((b : List ℕ) → length b ≡ 4 → P (4 ∷ b))
    → ((b : List ℕ) → length b ≡ 3 → P (5 ∷ b))
    → ((b : List ℕ) → length b ≡ 8 → P (6 ∷ b))
    → ((b : List ℕ) → length b ≡ 12 → P (7 ∷ b))
    → ((b : List ℕ) → length b ≡ 9 → P (8 ∷ b))
    → ((b : List ℕ) → length b ≡ 5 → P (10 ∷ b))
    → (l : List ℕ) → WholeBytes l → P l
unfolding body_length if_eq
whole_cases P p1 p2 p3 p4 p5 p6 p7 p8 p10 l w =
    subst P (sym w.same)
    (kind_cases (λ k. (b : List ℕ) → length b ≡ body_length k → P (k ∷ b)) p1 p2 p3 p4 p5 p6 p7 p8 p10 w.kind w.whole.known w.body w.whole.full)

-- numbers read from bytes

get_or_below : (l : List ℕ) (i : ℕ) → Bytes l → get_or l i 0 < 256
get_or_below [] i h = zero-lt-suc 255
get_or_below (x ∷ l) zero h = h.0
get_or_below (x ∷ l) (suc i) h = get_or_below l i h.1

module _ (l : List ℕ) (below : Bytes l) (i : ℕ) where
  field_below : (n : ℕ) → field l i n < 256 ^ n
  unfolding field
  field_below zero = zero-lt-suc 0
  field_below (suc n) = rw (pow-suc 256 n) (digits_lt (field_below n) (get_or_below l (i + n) below))

  -- without its m last bytes
  field_div : (k m : ℕ) → field l i (k + m) / 256 ^ m ≡ field l i k
  unfolding field
  field_div k zero = rw (add-zero k) (div-one (field l i k))
  field_div k (suc m) =
      rw (add-suc k m, pow-succ' 256 m, ← div-div-eq-div-mul (field l i (k + m) * 256 + get_or l (i + (k + m)) 0) 256 (256 ^ m), digits_div (field l i (k + m)) (get_or_below l (i + (k + m)) below))
      (field_div k m)

  -- the last m of the k + m bytes of a number that is read
  bytes_last : (k m : ℕ) → i + (k + m) ≤ length l → bytes m (field l i (k + m)) ≡ take m (drop (i + k) l)
  unfolding bytes field
  bytes_last k zero h = refl
  bytes_last k (suc m) h =
      let e : k + suc m ≡ suc k + m = omega arith in
      let a : i + k < length l = omega arith in
      let g : i + (suc k + m) ≤ length l = omega arith in
      ap (λ (n : ℕ). bytes (suc m) (field l i n)) e
      ∙ ap₂ (λ (x : ℕ) (y : List ℕ). x ∷ y)
      (ap (λ (x : ℕ). x % 256) (field_div (suc k) m) ∙ digits_mod (field l i k) (get_or_below l (i + k) below))
      (bytes_last (suc k) m g ∙ ap (λ (n : ℕ). take m (drop n l)) (add-suc i k))
      ∙ ap (λ (r : List ℕ). take (suc m) r) (sym (drop-cons l (i + k) 0 a))

  -- the bytes of a number that is read are those that it is read from
  bytes_field : (n : ℕ) → i + n ≤ length l → bytes n (field l i n) ≡ take n (drop i l)
  bytes_field n h =
      let e = bytes_last 0 n in
      rw (zero-add n, add-zero i) at e h

-- the body of a record, field by field
module _ (k : ℕ) (b : List ℕ) (n : ℕ) (e : length b ≡ n) (h : Bytes (k ∷ b)) where
  next : (i m : ℕ) (x : List ℕ) → i + m ≤ n → x ≡ take i b → x ++ bytes m (field (k ∷ b) (suc i) m) ≡ take (i + m) b
  next i m x g q =
      let a : suc i + m ≤ length (k ∷ b) = omega arith in
      ap₂ (λ (u v : List ℕ). u ++ v) q (bytes_field (k ∷ b) h (suc i) m a) ∙ sym (take-add i m b)

  all : {x : List ℕ} → x ≡ take n b → k ∷ x ≡ k ∷ b
  all q = ap (λ (u : List ℕ). k ∷ u) (q ∙ take_all n b (le_of_eq e))

pub encode_decode : (l : List ℕ) → Bytes l → WholeBytes l → encode (decode l) ≡ l
unfolding encode decode if_eq
encode_decode l h w =
    whole_cases (λ x. Bytes x → encode (decode x) ≡ x)
    (λ b e h. let f = next 1 b 4 e h in all 1 b 4 e h (f 0 4 _ (omega arith) refl))
    (λ b e h. let f = next 2 b 8 e h in all 2 b 8 e h (f 4 4 _ (omega arith) (f 3 1 _ (omega arith) (f 2 1 _ (omega arith) (f 0 2 _ (omega arith) refl)))))
    (λ b e h. let f = next 3 b 12 e h in all 3 b 12 e h (f 4 8 _ (omega arith) (f 0 4 _ (omega arith) refl)))
    (λ b e h. let f = next 4 b 4 e h in all 4 b 4 e h (f 0 4 _ (omega arith) refl))
    (λ b e h. let f = next 5 b 3 e h in all 5 b 3 e h (f 1 2 _ (omega arith) (f 0 1 _ (omega arith) refl)))
    (λ b e h. let f = next 6 b 8 e h in all 6 b 8 e h (f 6 2 _ (omega arith) (f 2 4 _ (omega arith) (f 0 2 _ (omega arith) refl))))
    (λ b e h. let f = next 7 b 12 e h in all 7 b 12 e h (f 4 8 _ (omega arith) (f 0 4 _ (omega arith) refl)))
    (λ b e h. let f = next 8 b 9 e h in all 8 b 9 e h (f 8 1 _ (omega arith) (f 6 2 _ (omega arith) (f 2 4 _ (omega arith) (f 0 2 _ (omega arith) refl)))))
    (λ b e h. let f = next 10 b 5 e h in all 10 b 5 e h (f 1 4 _ (omega arith) (f 0 1 _ (omega arith) refl)))
    l w h

pub decode_fits : (l : List ℕ) → Bytes l → WholeBytes l → Fits (decode l)
unfolding decode if_eq Fits
decode_fits l h w =
    whole_cases (λ x. Bytes x → Fits (decode x))
    (λ b e h. field_below (1 ∷ b) h 1 4)
    (λ b e h. (field_below (2 ∷ b) h 1 2, field_below (2 ∷ b) h 3 1, field_below (2 ∷ b) h 4 1, field_below (2 ∷ b) h 5 4))
    (λ b e h. (field_below (3 ∷ b) h 1 4, field_below (3 ∷ b) h 5 8))
    (λ b e h. field_below (4 ∷ b) h 1 4)
    (λ b e h. (field_below (5 ∷ b) h 1 1, field_below (5 ∷ b) h 2 2))
    (λ b e h. (field_below (6 ∷ b) h 1 2, field_below (6 ∷ b) h 3 4, field_below (6 ∷ b) h 7 2))
    (λ b e h. (field_below (7 ∷ b) h 1 4, field_below (7 ∷ b) h 5 8))
    (λ b e h. (field_below (8 ∷ b) h 1 2, field_below (8 ∷ b) h 3 4, field_below (8 ∷ b) h 7 2, field_below (8 ∷ b) h 9 1))
    (λ b e h. (field_below (10 ∷ b) h 1 1, field_below (10 ∷ b) h 2 4))
    l w h

pub encode_bytes : (r : Record) → Bytes (encode r)
unfolding encode
encode_bytes (opening_rec n) = (omega arith, bytes_below 4 n)
encode_bytes (target_rec n (described f)) = (
  omega arith,
  one_more_lem (bytes 2 n ++ bytes 1 f.class ++ bytes 1 f.setting) 4 f.volume
      (one_more_lem (bytes 2 n ++ bytes 1 f.class) 1 f.setting (one_more_lem (bytes 2 n) 1 f.class (bytes_below 2 n))),
)
encode_bytes (leak_rec n f) = (omega arith, one_more_lem (bytes 4 n) 8 f (bytes_below 4 n))
encode_bytes (branching_rec (given p)) = (omega arith, bytes_below 4 p)
encode_bytes (branching_rec (on_curve c r)) = (omega arith, one_more_lem (bytes 1 c) 4 r (bytes_below 1 c))
encode_bytes (outcome_rec k n) = (omega arith, one_more_lem (bytes 1 k) 2 n (bytes_below 1 k))
encode_bytes (effect_rec (in_seconds t i d)) = (omega arith, one_more_lem (bytes 2 t ++ bytes 4 i) 2 d (one_more_lem (bytes 2 t) 4 i (bytes_below 2 t)))
encode_bytes (effect_rec (timed t i d u)) = (omega arith, one_more_lem (bytes 2 t ++ bytes 4 i ++ bytes 2 d) 1 u (one_more_lem (bytes 2 t ++ bytes 4 i) 2 d (one_more_lem (bytes 2 t) 4 i (bytes_below 2 t))))
encode_bytes (closing_rec n s) = (omega arith, one_more_lem (bytes 4 n) 8 s (bytes_below 4 n))

whole_bytes : (k : ℕ) (b : List ℕ) → (body_length k ≡ 0 → ⊥) → length b ≡ body_length k → WholeBytes (k ∷ b)
whole_bytes k b n e = record { kind = k; body = b; same = refl; whole = record { known = n; full = e } }

pub encode_whole : (r : Record) → WholeBytes (encode r)
unfolding encode bytes body_length if_eq
encode_whole (opening_rec n) = whole_bytes 1 _ (omega arith) refl
encode_whole (target_rec n (described f)) = whole_bytes 2 _ (omega arith) refl
encode_whole (leak_rec n f) = whole_bytes 3 _ (omega arith) refl
encode_whole (branching_rec (given p)) = whole_bytes 4 _ (omega arith) refl
encode_whole (branching_rec (on_curve c r)) = whole_bytes 10 _ (omega arith) refl
encode_whole (outcome_rec k n) = whole_bytes 5 _ (omega arith) refl
encode_whole (effect_rec (in_seconds t i d)) = whole_bytes 6 _ (omega arith) refl
encode_whole (effect_rec (timed t i d u)) = whole_bytes 8 _ (omega arith) refl
encode_whole (closing_rec n s) = whole_bytes 7 _ (omega arith) refl

-- a field is read from its own bytes alone
field_prefix : (l q : List ℕ) (i n : ℕ) → i + n ≤ length l → field (l ++ q) i n ≡ field l i n
unfolding field
field_prefix l q i zero h = refl
field_prefix l q i (suc n) h =
    let a : i + n < length l = omega arith in
    let g : i + n ≤ length l = omega arith in
    ap₂ (λ (u v : ℕ). u * 256 + v) (field_prefix l q i n g) (get_or-append l q 0 (i + n) a)

-- what stands after a whole record does not change what it is
pub decode_prefix : (l q : List ℕ) → WholeBytes l → decode (l ++ q) ≡ decode l
unfolding decode if_eq
decode_prefix l q w =
    whole_cases (λ x. decode (x ++ q) ≡ decode x)
    (λ b e. ap opening_rec (at 1 b 1 4 (omega arith)))
    (λ b e.
    let a = at 2 b 1 2 (omega arith) in
    let c = at 2 b 3 1 (omega arith) in
    let s = at 2 b 4 1 (omega arith) in
    let v = at 2 b 5 4 (omega arith) in
    λ j. target_rec (a j) (described (record { class = c j; setting = s j; volume = v j })))
    (λ b e. ap₂ leak_rec (at 3 b 1 4 (omega arith)) (at 3 b 5 8 (omega arith)))
    (λ b e. ap (λ (x : ℕ). branching_rec (given x)) (at 4 b 1 4 (omega arith)))
    (λ b e. ap₂ outcome_rec (at 5 b 1 1 (omega arith)) (at 5 b 2 2 (omega arith)))
    (λ b e.
    let t = at 6 b 1 2 (omega arith) in
    let u = at 6 b 3 4 (omega arith) in
    let d = at 6 b 7 2 (omega arith) in
    λ j. effect_rec (in_seconds (t j) (u j) (d j)))
    (λ b e. ap₂ closing_rec (at 7 b 1 4 (omega arith)) (at 7 b 5 8 (omega arith)))
    (λ b e.
    let t = at 8 b 1 2 (omega arith) in
    let u = at 8 b 3 4 (omega arith) in
    let d = at 8 b 7 2 (omega arith) in
    let w = at 8 b 9 1 (omega arith) in
    λ j. effect_rec (timed (t j) (u j) (d j) (w j)))
    (λ b e. ap₂ (λ (x y : ℕ). branching_rec (on_curve x y)) (at 10 b 1 1 (omega arith)) (at 10 b 2 4 (omega arith)))
    l w
  where
    at : (k : ℕ) (b : List ℕ) (i n : ℕ) → i + n ≤ length (k ∷ b) → field (k ∷ (b ++ q)) i n ≡ field (k ∷ b) i n
    at k b i n h = field_prefix (k ∷ b) q i n h

pub pending_decode : (l p : List ℕ) → WholeBytes l → decode (l ++ drop (length l) p) ≡ decode l
pending_decode l p w = decode_prefix l (drop (length l) p) w

pub body_most : (k : ℕ) → body_length k ≤ 12
unfolding body_length
body_most k =
    eq_both Few k 1 4 _ (omega arith)
    (eq_both Few k 2 8 _ (omega arith)
    (eq_both Few k 3 12 _ (omega arith)
    (eq_both Few k 4 4 _ (omega arith)
    (eq_both Few k 5 3 _ (omega arith) (eq_both Few k 6 8 _ (omega arith) (eq_both Few k 7 12 _ (omega arith) (eq_both Few k 8 9 _ (omega arith) (eq_both Few k 10 5 0 (omega arith) (omega arith)))))))))
  where
    Few : ℕ → Type 0
    Few n = n ≤ 12
