-- The function that items spell, or why they spell none: what is read is right, and it is the one answer.
use Rattle.std.proofs.Common.{◌≡◌, ℕ, ◌-◌, ◌≤◌, Bool, true, false, cond, List, [], ◌∷◌, ◌++◌, length, slice_get, Option, Some, None, Result, Ok, Err, refl, sym, ap, ◌∙◌, subst, arith}
use Rattle.std.specs.List.{filter, AllZip}
use Rattle.std.specs.Option.{option_map_or}
use Rattle.std.proofs.lemmas.Option.{same_Some}
use Rattle.insn_ops.specs.declared.op.Op.{Op}
use Rattle.insn_ops.specs.declared.op.Op.TheVariants.{Jmp, Ret}
use Rattle.outcomes.specs.Firsts.{◌>>=◌}
use Rattle.outcomes.proofs.FirstFaults.{IsOutcome, first-alone}
use Rattle.insn_table.specs.declared.insn.Insn.{Insn}
use Rattle.insn_table.specs.Closed.{IsLeaving}
use Rattle.text_lines.specs.declared.refusal.ReadKind.{ReadKind}
use Rattle.text_lines.specs.declared.refusal.ReadKind.TheVariants.{Memory, NotUtf8, LineLong, NoFunction, TwiceLabel, DataInBody, UnknownInstruction, PoolRefused, BadOperand, BadNumber, UnknownLabel, TooManyInsns, FallsOff}
use Rattle.text_lines.specs.Lines.{Item, Label, Statement}
use Rattle.text_lines.specs.Kinds.{rank, line_number}
use Rattle.text_lines.specs.Statements.{FindsTargets, Reads}
use Rattle.text_lines.proofs.TextItems as order
use Rattle.att_bodies.specs.Body.{is_code, IsExtent, IsTarget}
use Rattle.att_bodies.specs.Faults.{Fault, fault, IsItemFault, FaultPrecedes, HasBodyFault, IsFirstFault}
use Rattle.att_bodies.specs.Functions.{Spells, AreInsns, Leaves, last_line, IsFunction, AreRefused, Missing, Faulty, Open}
use Rattle.att_bodies.specs.Reading.{target_of, extent_of, insns_of, is_leaving, leaves, closed_by, read_extent, insns_in}
use Rattle.att_bodies.proofs.Extents.{IsFoundExtent, extent-known, extent-only, extent-named}
use Rattle.att_bodies.proofs.Targets.{finds-targets}
use Rattle.att_bodies.proofs.Outcomes.{IsRead, insns-outcome, insns-read, later-rank}

-- instructions that leave

leaving-known : (op : Op) → is_leaving op ≡ true → IsLeaving op
leaving-known Ret h = tt
leaving-known Jmp h = tt
leaving-known _ h = cc

leaving-only : (op : Op) → is_leaving op ≡ false → IsLeaving op → ⊥
leaving-only Ret h leaves = cc
leaving-only Jmp h leaves = cc
leaving-only _ h leaves = leaves

leaves-at : (insns : List Insn) (o : Option Insn) → slice_get insns (length insns - 1) ≡ o → option_map_or (λ (i : Insn). is_leaving i.op) o false ≡ true → Leaves insns
leaves-at insns None is h = cc
leaves-at insns (Some i) is h = record { last = i; there = is; leaves = leaving-known i.op h }

-- the last instruction leaves where the test says so
pub leaves-known : (insns : List Insn) → leaves insns ≡ true → Leaves insns
leaves-known insns h = leaves-at insns (slice_get insns (length insns - 1)) refl h

pub leaves-only : (insns : List Insn) → leaves insns ≡ false → Leaves insns → ⊥
leaves-only insns h l =
    let same : option_map_or (λ (i : Insn). is_leaving i.op) (Some l.last) false ≡ false = subst (λ o. option_map_or (λ (i : Insn). is_leaving i.op) o false ≡ false) l.there h in
    leaving-only l.last.op same l.leaves

-- the kinds by their rank
kinds : List ReadKind
kinds =
    Memory ∷ NotUtf8 ∷ LineLong ∷ NoFunction ∷ TwiceLabel ∷ DataInBody ∷ UnknownInstruction ∷ PoolRefused ∷ BadOperand ∷ BadNumber ∷ UnknownLabel
    ∷ TooManyInsns ∷ FallsOff ∷ []

kind-at : (kind : ReadKind) → slice_get kinds (rank kind) ≡ Some kind
unfolding kinds
kind-at Memory = refl
kind-at NotUtf8 = refl
kind-at LineLong = refl
kind-at NoFunction = refl
kind-at TwiceLabel = refl
kind-at DataInBody = refl
kind-at UnknownInstruction = refl
kind-at PoolRefused = refl
kind-at BadOperand = refl
kind-at BadNumber = refl
kind-at UnknownLabel = refl
kind-at TooManyInsns = refl
kind-at FallsOff = refl

-- kinds of one rank are one
rank-once : (a b : ReadKind) → rank a ≡ rank b → a ≡ b
rank-once a b e = same_Some a b (sym (kind-at a) ∙ ap (slice_get kinds) e ∙ kind-at b)

fault-once : (a b : Fault) → a.line ≡ b.line → a.kind ≡ b.kind → a ≡ b
fault-once a b lines kinds_too = ap (λ (k : ℕ). fault k a.kind) lines ∙ ap (fault b.line) kinds_too

-- there is one first fault
first-fault-once : (IsBad : List ℕ → ReadKind → Type 0) (body : List Item) (a b : Fault) → IsFirstFault IsBad body a → IsFirstFault IsBad body b → a ≡ b
first-fault-once IsBad body a b one two =
    first-alone (IsItemFault IsBad) (λ (f : Fault). f.line) (λ (f : Fault). rank f.kind) [] body (λ x y _ _ lines ranks. fault-once x y lines (rank-once x.kind y.kind ranks)) a b one two

all-once : {A B : Type 0} (R : A → B → Type 0) → ((x : A) (a b : B) → R x a → R x b → a ≡ b) → (xs : List A) (ys zs : List B) → AllZip R xs ys → AllZip R xs zs → ys ≡ zs
all-once R once [] [] [] one two = refl
all-once R once [] (y ∷ ys) zs one two = absurd one
all-once R once [] [] (z ∷ zs) one two = absurd two
all-once R once (x ∷ xs) [] zs one two = absurd one
all-once R once (x ∷ xs) (y ∷ ys) [] one two = absurd two
all-once {B = B} R once (x ∷ xs) (y ∷ ys) (z ∷ zs) one two =
    ap (λ (b : B). b ∷ ys) (once x y z one.0 two.0) ∙ ap (λ (bs : List B). z ∷ bs) (all-once R once xs ys zs one.1 two.1)

-- a text has one extent
same-extent : (name : List ℕ) (items body after other rest : List Item) → IsExtent name items body after → IsExtent name items other rest → (body ≡ other) × (after ≡ rest)
same-extent name items body after other rest one two =
    let e : (body, after) ≡ (other, rest) = same_Some (body, after) (other, rest) (sym (extent-only name items body after one) ∙ extent-only name items other rest two) in
    (ap (λ (p : List Item × List Item). p.0) e, ap (λ (p : List Item × List Item). p.1) e)

-- the body's items are ordered as the text's are
body-ordered : (name : List ℕ) (m : ℕ) (items body after : List Item) → IsExtent name items body after → order.AreOrdered m items → order.AreOrdered m body
body-ordered name m items body after h ordered =
    order.ordered-front m body after (order.ordered-behind m h.before (body ++ after) (subst (order.AreOrdered m) h.whole ordered))

ok_same : {V E : Type 0} (a b : V) → ◌≡◌ {A = Result V E} (Ok a) (Ok b) → a ≡ b
ok_same a b e = cc

-- what is read of items, over every reader of instructions that answers rightly
module _ {r : (List ℕ → Option ℕ) → List ℕ → ℕ → Result Insn ReadKind} {IsBad : (List ℕ → ℕ → Type 0) → List ℕ → ReadKind → Type 0}
    {IsInsn : (List ℕ → ℕ → Type 0) → List ℕ → ℕ → Insn → Type 0}
    (reads : (target : List ℕ → Option ℕ) (Leads : List ℕ → ℕ → Type 0) → FindsTargets target Leads → Reads (r target) (IsBad Leads) (IsInsn Leads)) where
  -- what was answered is right
  abbrev pub IsRight : List ℕ → ℕ → List Item → Result (List Insn) Fault → Type 0
  IsRight name lines items (Ok insns) = IsFunction IsBad IsInsn name items insns
  IsRight name lines items (Err e) = AreRefused IsBad IsInsn name lines items e

  reads_body : (body : List Item) → Reads (r (target_of body)) (IsBad (IsTarget body)) (IsInsn (IsTarget body))
  reads_body body = reads (target_of body) (IsTarget body) (finds-targets body)

  closed-right : (name : List ℕ) (lines : ℕ) (items body after : List Item) (insns : List Insn) (t : Bool) → leaves insns ≡ t → IsExtent name items body after
      → ((e : Fault) → HasBodyFault (IsBad (IsTarget body)) body e → ⊥) → AreInsns (IsInsn (IsTarget body)) body insns
      → IsRight name lines items (cond t (Ok insns) (Err (fault (last_line lines body after) FallsOff)))
  closed-right name lines items body after insns true e extent sound read =
      record { body = body; after = after; extent = extent; sound = sound; read = read; leaves = leaves-known insns e }
  closed-right name lines items body after insns false e extent sound read = Open body after insns extent sound read (leaves-only insns e) refl

  body-right : (name : List ℕ) (lines : ℕ) (items body after : List Item) (found : Result (List Insn) Fault) → IsExtent name items body after
      → IsOutcome (IsItemFault (IsBad (IsTarget body))) FaultPrecedes (IsRead (IsInsn (IsTarget body))) [] body found
      → IsRight name lines items (found >>= closed_by lines body after)
  body-right name lines items body after (Ok insns) extent out =
      closed-right name lines items body after insns (leaves insns) refl extent out.1 (insns-read (reads_body body) [] body insns out.0)
  body-right name lines items body after (Err e) extent out = Faulty body after extent out

  extent-right : (name : List ℕ) (lines : ℕ) (items : List Item) (o : Option (List Item × List Item)) → order.AreOrdered 1 items → IsFoundExtent name items o
      → IsRight name lines items (read_extent r lines o)
  extent-right name lines items None ordered none = Missing none refl
  extent-right name lines items (Some found) ordered extent =
      body-right name lines items found.0 found.1 (insns_of (r (target_of found.0)) found.0) extent
      (insns-outcome (reads_body found.0) 1 found.0 (body-ordered name 1 items found.0 found.1 extent ordered))

  -- what is read of ordered items is right
  pub insns-right : (name : List ℕ) (lines : ℕ) (items : List Item) → order.AreOrdered 1 items → IsRight name lines items (insns_in r name lines items)
  insns-right name lines items ordered = extent-right name lines items (extent_of name items) ordered (extent-known name items)

  spells-once : (body : List Item) (item : Item) (a b : Insn) → Spells (IsInsn (IsTarget body)) item a → Spells (IsInsn (IsTarget body)) item b → a ≡ b
  spells-once body (Label name k) a b one two = absurd one
  spells-once body (Statement x k) a b one two =
      ok_same a b (sym ((reads_body body).only x (line_number k) a one) ∙ (reads_body body).only x (line_number k) b two)

  insns-once : (body : List Item) (a b : List Insn) → AreInsns (IsInsn (IsTarget body)) body a → AreInsns (IsInsn (IsTarget body)) body b → a ≡ b
  insns-once body a b one two = all-once (Spells (IsInsn (IsTarget body))) (spells-once body) (filter is_code body) a b one two

  -- items spell one function
  pub function-once : (name : List ℕ) (items : List Item) (a b : List Insn) → IsFunction IsBad IsInsn name items a → IsFunction IsBad IsInsn name items b → a ≡ b
  function-once name items a b one two =
      let same = same-extent name items one.body one.after two.body two.after one.extent two.extent in
      insns-once two.body a b (subst (λ (x : List Item). AreInsns (IsInsn (IsTarget x)) x a) same.0 one.read) two.read

  -- items that are refused spell none
  pub refused-differs : (name : List ℕ) (lines : ℕ) (items : List Item) (e : Fault) (insns : List Insn) → AreRefused IsBad IsInsn name lines items e
      → IsFunction IsBad IsInsn name items insns → ⊥
  refused-differs name lines items e insns (Missing none is) f = extent-named name items f.body f.after f.extent none
  refused-differs name lines items e insns (Faulty body after extent first) f =
      let same = same-extent name items body after f.body f.after extent f.extent in
      f.sound e (subst (λ (x : List Item). HasBodyFault (IsBad (IsTarget x)) x e) same.0 first.has)
  refused-differs name lines items e insns (Open body after others extent sound read open_end is) f =
      let same = same-extent name items body after f.body f.after extent f.extent in
      let insns_same = insns-once f.body others insns (subst (λ (x : List Item). AreInsns (IsInsn (IsTarget x)) x others) same.0 read) f.read in
      open_end (subst Leaves (sym insns_same) f.leaves)

  -- memory is no cause for which items are refused
  pub refused-rank : (name : List ℕ) (lines : ℕ) (items : List Item) (e : Fault) → AreRefused IsBad IsInsn name lines items e → 3 ≤ rank e.kind
  refused-rank name lines items e (Missing none is) = let same : rank e.kind ≡ 3 = ap (λ (f : Fault). rank f.kind) is in omega arith
  refused-rank name lines items e (Faulty body after extent first) = omega (arith, later-rank (reads_body body) [] body e first.has)
  refused-rank name lines items e (Open body after insns extent sound read open_end is) = let same : rank e.kind ≡ 12 = ap (λ (f : Fault). rank f.kind) is in omega arith

  -- and are refused in one way
  pub refused-once : (name : List ℕ) (lines : ℕ) (items : List Item) (a b : Fault) → AreRefused IsBad IsInsn name lines items a → AreRefused IsBad IsInsn name lines items b → a ≡ b
  refused-once name lines items a b (Missing none is) (Missing gone too) = is ∙ sym too
  refused-once name lines items a b (Missing none is) (Faulty body after extent first) = absurd (extent-named name items body after extent none)
  refused-once name lines items a b (Missing none is) (Open body after insns extent sound read open_end too) = absurd (extent-named name items body after extent none)
  refused-once name lines items a b (Faulty body after extent first) (Missing none is) = absurd (extent-named name items body after extent none)
  refused-once name lines items a b (Open body after insns extent sound read open_end too) (Missing none is) = absurd (extent-named name items body after extent none)
  refused-once name lines items a b (Faulty body after extent first) (Faulty other rest more second) =
      let same = same-extent name items body after other rest extent more in
      first-fault-once (IsBad (IsTarget other)) other a b (subst (λ (x : List Item). IsFirstFault (IsBad (IsTarget x)) x a) same.0 first) second
  refused-once name lines items a b (Faulty body after extent first) (Open other rest insns more sound read open_end is) =
      let same = same-extent name items body after other rest extent more in
      absurd (sound a (subst (λ (x : List Item). HasBodyFault (IsBad (IsTarget x)) x a) same.0 first.has))
  refused-once name lines items a b (Open other rest insns more sound read open_end is) (Faulty body after extent first) =
      let same = same-extent name items body after other rest extent more in
      absurd (sound b (subst (λ (x : List Item). HasBodyFault (IsBad (IsTarget x)) x b) same.0 first.has))
  refused-once name lines items a b (Open body after insns extent sound read open_end is) (Open other rest more_insns more clear more_read more_open too) =
      let same = same-extent name items body after other rest extent more in
      is ∙ ap (λ (x : List Item). fault (last_line lines x after) FallsOff) same.0 ∙ ap (λ (x : List Item). fault (last_line lines other x) FallsOff) same.1 ∙ sym too
