-- For the proofs. The two tables behind L. Assumes nothing.
use Rattle.std.specs.Prelude.{◌≡◌, List, [], ◌∷◌, ℕ, ◌+◌, ◌-◌, ◌*◌, ◌/◌, ◌%◌, ◌^◌, ◌<◌, ◌≤◌, get_or}
use Rattle.thresholds.specs.Thresholds.{Thresholds, thresholds}
use Rattle.numeric.specs.Choice.{if_lt}

-- a mantissa, at least 2^31 and below 2^32, lies at a step of its octave
pub record StepOf (m k : ℕ) : Type 0 where
  pub within : k < 256
  pub low : 2 ^ (31 * 256 + k) ≤ m ^ 256
  pub high : m ^ 256 < 2 ^ (31 * 256 + k + 1)

-- every mantissa from 2^31 on whose nine bits below the highest are b lies at step g of its octave or at the one before, and the least of them at the one
-- before, unless g is the last step
pub record NearStep (b g : ℕ) : Type 0 where
  pub first : 0 < g
  pub within : g < 256
  pub low : 2 ^ (31 * 256 + (g - 1)) ≤ (2 ^ 31 + b * 2 ^ 22) ^ 256
  pub high : (2 ^ 31 + b * 2 ^ 22 + (2 ^ 22 - 1)) ^ 256 < 2 ^ (31 * 256 + g + 1)
  pub before : g < 255 → (2 ^ 31 + b * 2 ^ 22) ^ 256 < 2 ^ (31 * 256 + g)

-- so no nine bits have two near steps, and the table is decided entry by entry
abbrev pub OneNearStep : Type 0
OneNearStep = (b g h : ℕ) → NearStep b g → NearStep b h → g ≡ h

-- a table with a near step for each nine bits
unfoldable pub NearSteps : List ℕ → Type 0
NearSteps l = (b : ℕ) → b < 512 → NearStep b (get_or l b 0)

-- the two tables behind L: the thresholds, and where to look among them
pub record LogTables (t n : List ℕ) : Type 0 where
  pub thresholds : Thresholds t
  pub near : NearSteps n

-- What two tables give for a mantissa whose octave begins at a step: the near step of its nine bits, and one less where the mantissa is
-- below the threshold there.
unfoldable pub step_by : List ℕ → List ℕ → ℕ → ℕ → ℕ
step_by t n octave m = octave + get_or n (m / 2 ^ 22 % 512) 0 - if_lt m (get_or t (get_or n (m / 2 ^ 22 % 512) 0) 0) 1 0

-- the near steps of the nine bits 0 to 511
abbrev pub near_steps : List ℕ
near_steps =
    1 ∷ 1 ∷ 2 ∷ 3 ∷ 3 ∷ 4 ∷ 5 ∷ 6 ∷ 6 ∷ 7 ∷ 8 ∷ 8 ∷ 9 ∷ 10 ∷ 10 ∷ 11 ∷ 12 ∷ 13 ∷ 13 ∷ 14 ∷ 15 ∷ 15 ∷ 16 ∷ 17 ∷ 17 ∷ 18 ∷ 19 ∷ 19 ∷ 20 ∷ 21 ∷ 22 ∷ 22 ∷
    23 ∷ 24 ∷ 24 ∷ 25 ∷ 26 ∷ 26 ∷ 27 ∷ 28 ∷ 28 ∷ 29 ∷ 30 ∷ 30 ∷ 31 ∷ 32 ∷ 32 ∷ 33 ∷ 34 ∷ 34 ∷ 35 ∷ 36 ∷ 36 ∷ 37 ∷ 38 ∷ 38 ∷ 39 ∷ 39 ∷ 40 ∷ 41 ∷ 41 ∷ 42 ∷ 43 ∷ 43 ∷
    44 ∷ 45 ∷ 45 ∷ 46 ∷ 47 ∷ 47 ∷ 48 ∷ 48 ∷ 49 ∷ 50 ∷ 50 ∷ 51 ∷ 52 ∷ 52 ∷ 53 ∷ 53 ∷ 54 ∷ 55 ∷ 55 ∷ 56 ∷ 57 ∷ 57 ∷ 58 ∷ 58 ∷ 59 ∷ 60 ∷ 60 ∷ 61 ∷ 62 ∷ 62 ∷ 63 ∷ 63 ∷
    64 ∷ 65 ∷ 65 ∷ 66 ∷ 66 ∷ 67 ∷ 68 ∷ 68 ∷ 69 ∷ 69 ∷ 70 ∷ 71 ∷ 71 ∷ 72 ∷ 72 ∷ 73 ∷ 74 ∷ 74 ∷ 75 ∷ 75 ∷ 76 ∷ 77 ∷ 77 ∷ 78 ∷ 78 ∷ 79 ∷ 79 ∷ 80 ∷ 81 ∷ 81 ∷ 82 ∷ 82 ∷
    83 ∷ 83 ∷ 84 ∷ 85 ∷ 85 ∷ 86 ∷ 86 ∷ 87 ∷ 88 ∷ 88 ∷ 89 ∷ 89 ∷ 90 ∷ 90 ∷ 91 ∷ 91 ∷ 92 ∷ 93 ∷ 93 ∷ 94 ∷ 94 ∷ 95 ∷ 95 ∷ 96 ∷ 97 ∷ 97 ∷ 98 ∷ 98 ∷ 99 ∷ 99 ∷ 100 ∷ 100 ∷
    101 ∷ 101 ∷ 102 ∷ 103 ∷ 103 ∷ 104 ∷ 104 ∷ 105 ∷ 105 ∷ 106 ∷ 106 ∷ 107 ∷ 107 ∷ 108 ∷ 109 ∷ 109 ∷ 110 ∷ 110 ∷ 111 ∷ 111 ∷ 112 ∷ 112 ∷ 113 ∷ 113 ∷ 114 ∷ 114 ∷ 115 ∷ 115 ∷ 116 ∷ 117 ∷ 117 ∷ 118 ∷
    118 ∷ 119 ∷ 119 ∷ 120 ∷ 120 ∷ 121 ∷ 121 ∷ 122 ∷ 122 ∷ 123 ∷ 123 ∷ 124 ∷ 124 ∷ 125 ∷ 125 ∷ 126 ∷ 126 ∷ 127 ∷ 127 ∷ 128 ∷ 128 ∷ 129 ∷ 129 ∷ 130 ∷ 130 ∷ 131 ∷ 132 ∷ 132 ∷ 133 ∷ 133 ∷ 134 ∷ 134 ∷
    135 ∷ 135 ∷ 136 ∷ 136 ∷ 137 ∷ 137 ∷ 138 ∷ 138 ∷ 139 ∷ 139 ∷ 140 ∷ 140 ∷ 141 ∷ 141 ∷ 141 ∷ 142 ∷ 142 ∷ 143 ∷ 143 ∷ 144 ∷ 144 ∷ 145 ∷ 145 ∷ 146 ∷ 146 ∷ 147 ∷ 147 ∷ 148 ∷ 148 ∷ 149 ∷ 149 ∷ 150 ∷
    150 ∷ 151 ∷ 151 ∷ 152 ∷ 152 ∷ 153 ∷ 153 ∷ 154 ∷ 154 ∷ 155 ∷ 155 ∷ 156 ∷ 156 ∷ 156 ∷ 157 ∷ 157 ∷ 158 ∷ 158 ∷ 159 ∷ 159 ∷ 160 ∷ 160 ∷ 161 ∷ 161 ∷ 162 ∷ 162 ∷ 163 ∷ 163 ∷ 163 ∷ 164 ∷ 164 ∷ 165 ∷
    165 ∷ 166 ∷ 166 ∷ 167 ∷ 167 ∷ 168 ∷ 168 ∷ 169 ∷ 169 ∷ 169 ∷ 170 ∷ 170 ∷ 171 ∷ 171 ∷ 172 ∷ 172 ∷ 173 ∷ 173 ∷ 174 ∷ 174 ∷ 174 ∷ 175 ∷ 175 ∷ 176 ∷ 176 ∷ 177 ∷ 177 ∷ 178 ∷ 178 ∷ 178 ∷ 179 ∷ 179 ∷
    180 ∷ 180 ∷ 181 ∷ 181 ∷ 182 ∷ 182 ∷ 182 ∷ 183 ∷ 183 ∷ 184 ∷ 184 ∷ 185 ∷ 185 ∷ 186 ∷ 186 ∷ 186 ∷ 187 ∷ 187 ∷ 188 ∷ 188 ∷ 189 ∷ 189 ∷ 189 ∷ 190 ∷ 190 ∷ 191 ∷ 191 ∷ 192 ∷ 192 ∷ 192 ∷ 193 ∷ 193 ∷
    194 ∷ 194 ∷ 195 ∷ 195 ∷ 195 ∷ 196 ∷ 196 ∷ 197 ∷ 197 ∷ 198 ∷ 198 ∷ 198 ∷ 199 ∷ 199 ∷ 200 ∷ 200 ∷ 201 ∷ 201 ∷ 201 ∷ 202 ∷ 202 ∷ 203 ∷ 203 ∷ 203 ∷ 204 ∷ 204 ∷ 205 ∷ 205 ∷ 206 ∷ 206 ∷ 206 ∷ 207 ∷
    207 ∷ 208 ∷ 208 ∷ 208 ∷ 209 ∷ 209 ∷ 210 ∷ 210 ∷ 210 ∷ 211 ∷ 211 ∷ 212 ∷ 212 ∷ 213 ∷ 213 ∷ 213 ∷ 214 ∷ 214 ∷ 215 ∷ 215 ∷ 215 ∷ 216 ∷ 216 ∷ 217 ∷ 217 ∷ 217 ∷ 218 ∷ 218 ∷ 219 ∷ 219 ∷ 219 ∷ 220 ∷
    220 ∷ 221 ∷ 221 ∷ 221 ∷ 222 ∷ 222 ∷ 223 ∷ 223 ∷ 223 ∷ 224 ∷ 224 ∷ 224 ∷ 225 ∷ 225 ∷ 226 ∷ 226 ∷ 226 ∷ 227 ∷ 227 ∷ 228 ∷ 228 ∷ 228 ∷ 229 ∷ 229 ∷ 230 ∷ 230 ∷ 230 ∷ 231 ∷ 231 ∷ 232 ∷ 232 ∷ 232 ∷
    233 ∷ 233 ∷ 233 ∷ 234 ∷ 234 ∷ 235 ∷ 235 ∷ 235 ∷ 236 ∷ 236 ∷ 236 ∷ 237 ∷ 237 ∷ 238 ∷ 238 ∷ 238 ∷ 239 ∷ 239 ∷ 240 ∷ 240 ∷ 240 ∷ 241 ∷ 241 ∷ 241 ∷ 242 ∷ 242 ∷ 243 ∷ 243 ∷ 243 ∷ 244 ∷ 244 ∷ 244 ∷
    245 ∷ 245 ∷ 246 ∷ 246 ∷ 246 ∷ 247 ∷ 247 ∷ 247 ∷ 248 ∷ 248 ∷ 248 ∷ 249 ∷ 249 ∷ 250 ∷ 250 ∷ 250 ∷ 251 ∷ 251 ∷ 251 ∷ 252 ∷ 252 ∷ 253 ∷ 253 ∷ 253 ∷ 254 ∷ 254 ∷ 254 ∷ 255 ∷ 255 ∷ 255 ∷ 255 ∷ 255 ∷ []

-- these are the right ones
abbrev pub RightTables : Type 0
RightTables = LogTables thresholds near_steps
