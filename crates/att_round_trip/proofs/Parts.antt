-- Printed operands, with commas between them.
use Rattle.std.proofs.Common.{◌≡◌, inl, inr, ℕ, zero, suc, ◌+◌, ◌*◌, ◌<◌, ◌≤◌, ◌==◌, Bool, true, false, ◌&&◌, ◌||◌, if◌then◌else◌, eqb, not, nat_lt, List, [], ◌∷◌, ◌++◌, append-nil, length, length-append, map, replicate, codes, refl, sym, ◌∙◌, ap, subst, arith}
use Rattle.std.specs.List.{AllByRecursion, list_all}
use Rattle.std.proofs.lemmas.Bool.{and_from, and_parts}
use Rattle.std.proofs.lemmas.Bool.Decides.{nat_tests}
use Rattle.insn_table.specs.Classes.{is_nothing}
use Rattle.insn_table.specs.declared.insn.Operand.{Operand}
use Rattle.insn_table.specs.declared.insn.Operand.TheVariants.{Imm, Nothing, Reg, Vec}
use Rattle.text_lines.specs.Bytes.{is_blank}
use Rattle.att_statements.specs.Operands.{AreParts, IsUncut, Written, open_after}
use Rattle.att_statements.specs.Statements.{AreOperands, AreWritten}
use Rattle.insn_text.specs.InsnText.{operand_text, operands_text}
use Rattle.att_round_trip.proofs.Tokens.{IsToken, all-both, all-weaker, is_token, uncut-onto}
use Rattle.att_round_trip.proofs.Written.{IsWritten}

-- a byte of a printed instruction
unfoldable pub is_text : ℕ → Bool
is_text b = nat_lt 31 b && (nat_lt b 127 && (not (b == 35) && not (b == 58)))

-- a token's byte is one of a printed instruction
pub token-text : (b : ℕ) → is_token b ≡ true → is_text b ≡ true
unfolding is_token is_text
token-text b h =
    let parts = and_parts (nat_lt 32 b) _ h in
    and_from (nat_lt 31 b) _ (lower b parts.0) parts.1
  where
    lower : (b : ℕ) → nat_lt 32 b ≡ true → nat_lt 31 b ≡ true
    lower b e = grind (arith, nat_tests)

-- texts behind this one, and a comma before each other one
led : List ℕ → List (List ℕ) → List ℕ
led lead [] = []
led lead (t ∷ ts) = lead ++ t ++ led (codes ",") ts

-- texts with commas between them
abbrev pub commas : List (List ℕ) → List ℕ
commas [] = []
commas (t ∷ []) = t
commas (t ∷ u ∷ us) = t ++ 44 ∷ commas (u ∷ us)

-- the texts of operands, a blank before the first
abbrev pub blanked : List (List ℕ) → List (List ℕ)
blanked [] = []
blanked (t ∷ ts) = (32 ∷ t) ∷ ts

nothing-number : (v : ℕ) (o : Operand) → o ≡ Imm v → is_nothing o ≡ false
nothing-number v o e = subst (λ (x : Operand). is_nothing x ≡ false) (sym e) refl

some-register : (n v : ℕ) (vector : Bool) → is_nothing (if vector then Vec n v else Reg n v) ≡ false
some-register n v true = refl
some-register n v false = refl

-- an operand that a text has is one
pub some-operand : (o : Operand) → IsWritten o → is_nothing o ≡ false
some-operand o (inl number) = nothing-number number.0 o number.2
some-operand o (inr (text, inl reg)) =
    subst (λ (x : Operand). is_nothing x ≡ false) (sym reg.3) (some-register reg.0 reg.1 (eqb reg.1 128 || eqb reg.1 256))
some-operand o (inr (text, inr mem)) = subst (λ (x : Operand). is_nothing x ≡ false) (sym mem.means) refl

operands-step : (lead : List ℕ) (w : ℕ) (o : Operand) (rest : List Operand) → is_nothing o ≡ false
    → operands_text lead w (o ∷ rest) ≡ lead ++ operand_text w o ++ operands_text (codes ",") w rest
unfolding operands_text
operands-step lead w Nothing rest some = cc
operands-step lead w (Imm v) rest some = refl
operands-step lead w _ rest some = refl

operands-led : (lead : List ℕ) (w k : ℕ) (os : List Operand) → AllByRecursion IsWritten os
    → operands_text lead w (os ++ replicate k Nothing) ≡ led lead (map (operand_text w) os)
unfolding operands_text led
operands-led lead w zero [] all = refl
operands-led lead w (suc k) [] all = refl
operands-led lead w k (o ∷ os) all =
    operands-step lead w o (os ++ replicate k Nothing) (some-operand o all.0)
    ∙ ap (λ (t : List ℕ). lead ++ operand_text w o ++ t) (operands-led (codes ",") w k os all.1)

joins : (t : List ℕ) (ts : List (List ℕ)) → t ++ led (codes ",") ts ≡ commas (t ∷ ts)
unfolding led
joins t [] = append-nil t
joins t (u ∷ us) = ap (λ (x : List ℕ). t ++ 44 ∷ x) (joins u us)

led-commas : (ts : List (List ℕ)) → led (codes " ") ts ≡ commas (blanked ts)
unfolding led
led-commas [] = refl
led-commas (t ∷ ts) = joins (32 ∷ t) ts

-- what is printed behind a mnemonic
pub operands-printed : (w k : ℕ) (os : List Operand) → AllByRecursion IsWritten os
    → operands_text (codes " ") w (os ++ replicate k Nothing) ≡ commas (blanked (map (operand_text w) os))
operands-printed w k os all = operands-led (codes " ") w k os all ∙ led-commas (map (operand_text w) os)

-- a text that stands between commas
abbrev IsBetweenCommas : List ℕ → Type 0
IsBetweenCommas t = IsUncut 0 t × (open_after 0 t ≡ 0)

between-all : (ts : List (List ℕ)) → AllByRecursion IsToken ts → AllByRecursion IsBetweenCommas ts
between-all [] all = tt
between-all (t ∷ ts) all = ((all.0.uncut, all.0.closed), between-all ts all.1)

commas-parts : (t : List ℕ) (ts : List (List ℕ)) → IsBetweenCommas t → AllByRecursion IsBetweenCommas ts → AreParts 0 (commas (t ∷ ts)) (t ∷ ts)
commas-parts t [] one all = (refl, one.0)
commas-parts t (u ∷ us) one all = (commas (u ∷ us), refl, one.0, one.1, commas-parts u us all.0 all.1)

first-between : (t : List ℕ) → IsToken t → IsBetweenCommas (32 ∷ t)
first-between t token = (uncut-onto 0 32 t (λ e. absurd (omega arith)) token.uncut, token.closed)

commas-begin : (t : List ℕ) (ts : List (List ℕ)) → (more : List ℕ) × (commas (t ∷ ts) ≡ t ++ more)
commas-begin t [] = ([], sym (append-nil t))
commas-begin t (u ∷ us) = (44 ∷ commas (u ∷ us), refl)

first-solid : (t more : List ℕ) → 0 < length t → list_all is_token t ≡ true → list_all is_blank ((32 ∷ t) ++ more) ≡ false
unfolding is_token
first-solid [] more some bytes = absurd (omega arith)
first-solid (b ∷ bs) more some bytes =
    let solid : is_blank b ≡ false = solid-by b (and_parts (nat_lt 32 b) _ (and_parts (is_token b) (list_all is_token bs) bytes).0).0 in
    rw solid refl
  where
    solid-by : (b : ℕ) → nat_lt 32 b ≡ true → is_blank b ≡ false
    solid-by b e = grind (arith, nat_tests)

-- printed operands are operands
pub operands-are : (ts : List (List ℕ)) → AllByRecursion IsToken ts → AreOperands (commas (blanked ts)) (blanked ts)
operands-are [] all = inl (refl, refl)
operands-are (t ∷ ts) all =
    let begins = commas-begin (32 ∷ t) ts in
    inr (
      ap (list_all is_blank) begins.1 ∙ first-solid t begins.0 all.0.some all.0.bytes,
      commas-parts (32 ∷ t) ts (first-between t all.0) (between-all ts all.1),
    )

-- a blank before the first operand changes nothing
pub blanked-written : (ts : List (List ℕ)) (ws : List Written) → AreWritten ts ws → AreWritten (blanked ts) ws
blanked-written [] ws are = are
blanked-written (t ∷ ts) [] are = are
blanked-written (t ∷ ts) (w ∷ ws) are =
    let padded = are.0.1 in (
      (
        are.0.0,
        record {
          left = 32 ∷ padded.left;
          right = padded.right;
          spelled = ap (λ (x : List ℕ). 32 ∷ x) padded.spelled;
          left_blank = padded.left_blank;
          right_blank = padded.right_blank;
          trimmed = padded.trimmed;
        },
        are.0.2,
      ),
      are.1,
    )

-- bytes and their number

commas-text : (ts : List (List ℕ)) → AllByRecursion (λ t. list_all is_text t ≡ true) ts → list_all is_text (commas ts) ≡ true
unfolding is_text
commas-text [] all = refl
commas-text (t ∷ []) all = all.0
commas-text (t ∷ u ∷ us) all = all-both is_text t (44 ∷ commas (u ∷ us)) all.0 (commas-text (u ∷ us) all.1)

commas-short : (n : ℕ) (ts : List (List ℕ)) → AllByRecursion (λ t. length t ≤ n) ts → length (commas ts) ≤ (n + 1) * length ts
commas-short n [] all = omega arith
commas-short n (t ∷ []) all = omega (arith, all.0)
commas-short n (t ∷ u ∷ us) all = omega (arith, all.0, length-append t (44 ∷ commas (u ∷ us)), commas-short n (u ∷ us) all.1)

tokens-text : (ts : List (List ℕ)) → AllByRecursion IsToken ts → AllByRecursion (λ t. list_all is_text t ≡ true) ts
tokens-text [] all = tt
tokens-text (t ∷ ts) all = (all-weaker is_token is_text t token-text all.0.bytes, tokens-text ts all.1)

tokens-short : (ts : List (List ℕ)) → AllByRecursion IsToken ts → AllByRecursion (λ t. length t ≤ 101) ts
tokens-short [] all = tt
tokens-short (t ∷ ts) all = (omega (arith, all.0.short), tokens-short ts all.1)

-- the bytes of printed operands
pub blanked-text : (ts : List (List ℕ)) → AllByRecursion IsToken ts → list_all is_text (commas (blanked ts)) ≡ true
unfolding is_text
blanked-text [] all = refl
blanked-text (t ∷ ts) all =
    let each = tokens-text (t ∷ ts) all in commas-text ((32 ∷ t) ∷ ts) (each.0, each.1)

-- printed operands are short
pub blanked-short : (ts : List (List ℕ)) → AllByRecursion IsToken ts → length (commas (blanked ts)) ≤ 102 * length ts
blanked-short [] all = omega arith
blanked-short (t ∷ ts) all =
    omega (arith, commas-short 101 ((32 ∷ t) ∷ ts) (omega (arith, all.0.short), tokens-short ts all.1))

-- what stands behind a mnemonic is nothing or begins with a blank
pub blanked-cut : (ts : List (List ℕ)) (b : ℕ) (more : List ℕ) → commas (blanked ts) ≡ b ∷ more → is_blank b ≡ true
blanked-cut [] b more e = cc
blanked-cut (t ∷ ts) b more e =
    let begins = commas-begin (32 ∷ t) ts in
    let same : 32 ∷ (t ++ begins.0) ≡ b ∷ more = sym begins.1 ∙ e in
    let first : 32 ≡ b = cc in
    subst (λ (x : ℕ). is_blank x ≡ true) first refl

-- last bytes

-- the last byte of a text
abbrev pub last : List ℕ → ℕ
last [] = 0
last (b ∷ []) = b
last (b ∷ c ∷ cs) = last (c ∷ cs)

-- the byte that stands last
pub last-push : (front : List ℕ) (b : ℕ) → last (front ++ b ∷ []) ≡ b
last-push [] b = refl
last-push (x ∷ []) b = refl
last-push (x ∷ y ∷ ys) b = last-push (y ∷ ys) b

last-cons : (x : ℕ) (ys : List ℕ) → 0 < length ys → last (x ∷ ys) ≡ last ys
last-cons x [] some = absurd (omega arith)
last-cons x (y ∷ ys) some = refl

-- behind another text a text ends as it does alone
pub last-behind : (xs ys : List ℕ) → 0 < length ys → last (xs ++ ys) ≡ last ys
last-behind [] ys some = refl
last-behind (x ∷ xs) ys some = last-cons x (xs ++ ys) (omega (arith, length-append xs ys)) ∙ last-behind xs ys some

-- what each byte passes the last one passes
pub last-passes : (p : ℕ → Bool) (text : List ℕ) → 0 < length text → list_all p text ≡ true → p (last text) ≡ true
last-passes p [] some all = absurd (omega arith)
last-passes p (b ∷ []) some all = (and_parts (p b) true all).0
last-passes p (b ∷ c ∷ cs) some all = last-passes p (c ∷ cs) (omega arith) (and_parts (p b) (list_all p (c ∷ cs)) all).1

commas-some : (t : List ℕ) (ts : List (List ℕ)) → 0 < length t → 0 < length (commas (t ∷ ts))
commas-some t ts some = let begins = commas-begin t ts in omega (arith, ap length begins.1, length-append t begins.0)

commas-last : (t : List ℕ) (ts : List (List ℕ)) → 0 < length t → is_token (last t) ≡ true → AllByRecursion IsToken ts → is_token (last (commas (t ∷ ts))) ≡ true
commas-last t [] some ends all = ends
commas-last t (u ∷ us) some ends all =
    let more = commas-some u us all.0.some in
    let e : last (t ++ 44 ∷ commas (u ∷ us)) ≡ last (commas (u ∷ us)) = last-behind t (44 ∷ commas (u ∷ us)) (omega arith) ∙ last-cons 44 (commas (u ∷ us)) more in
    subst (λ (b : ℕ). is_token b ≡ true) (sym e) (commas-last u us all.0.some (last-passes is_token u all.0.some all.0.bytes) all.1)

-- printed operands end with a token's byte
pub blanked-last : (t : List ℕ) (ts : List (List ℕ)) → AllByRecursion IsToken (t ∷ ts) → is_token (last (commas (blanked (t ∷ ts)))) ≡ true
blanked-last t ts all =
    let ends : is_token (last (32 ∷ t)) ≡ true = subst (λ (b : ℕ). is_token b ≡ true) (sym (last-cons 32 t all.0.some)) (last-passes is_token t all.0.some all.0.bytes) in
    commas-last (32 ∷ t) ts (omega arith) ends all.1

-- an operand leaves some text
pub blanked-some : (t : List ℕ) (ts : List (List ℕ)) → 0 < length (commas (blanked (t ∷ ts)))
blanked-some t ts = commas-some (32 ∷ t) ts (omega arith)
