-- Single turns of the code: items of a body that are read one after another, and what is told of a whole body.
use Rattle.std.proofs.Common.{◌≡◌, ℕ, ◌+◌, ◌<◌, ◌≤◌, Bool, true, false, cond, ltb, not, ◌⊎◌, inr, List, [], ◌∷◌, ◌++◌, length, take, drop, get_or, map, Some, None, Result, Ok, Err, refl, sym, ap, ◌∙◌, subst, append-nil, append_assoc, add-one, arith}
use Rattle.std.specs.List.{list_any, count_by}
use Rattle.std.proofs.Math.Seq.{take-suc}
use Rattle.std.proofs.lemmas.List.{length-append, take-map, map-append}
use Rattle.outcomes.specs.Firsts.{◌>>=◌, all_of}
use Rattle.outcomes.proofs.Answering.{unless-map}
use Rattle.insn_table.specs.declared.insn.Insn.{Insn}
use Rattle.text_lines.specs.declared.refusal.ReadKind.{ReadKind}
use Rattle.text_lines.specs.declared.refusal.ReadKind.TheVariants.{NoFunction, TwiceLabel, DataInBody, TooManyInsns, FallsOff}
use Rattle.text_lines.specs.declared.refusal.ReadRefusal.{ReadRefusal}
use Rattle.text_lines.specs.declared.items.Item.{Item as KeptItem}
use Rattle.text_lines.specs.Lines.{Item, Label, Statement}
use Rattle.text_lines.specs.Kinds.{refusal, line_number, out_of_memory}
use Rattle.text_lines.specs.Views.{seen}
use Rattle.text_lines.specs.Cutting.{items_of_text}
use Rattle.std.specs.Str.Lines.{lines}
use Rattle.att_bodies.specs.Body.{is_label, is_directive, is_code}
use Rattle.att_bodies.specs.Faults.{Fault, fault, is_data}
use Rattle.att_bodies.specs.Functions.{last_line}
use Rattle.att_bodies.specs.Reading.{target_of, extent_of, item_of, at_line, counted, leaves, insns_in}
use Rattle.att_bodies.proofs.CodeSteps.{drop-map_seen, items-gone}
use Rattle.att_bodies.proofs.Counts.{count-push}
use Rattle.att_statements.specs.ReadingStatements.{statement_of}
use Rattle.att_reader.specs.Reading.{told, item_in, body_in, body_from, Grows, insns_of_text}

-- answers

-- a refusal that is told as this kind
pub refused-is : (P : ReadRefusal → Type 0) (e : ReadRefusal) (k : ℕ) (kind : ReadKind) → e ≡ refusal k kind → P (refusal k kind) → (e ≡ out_of_memory) ⊎ P e
refused-is P e k kind is h = inr (subst P (sym is) h)

err_same : {V : Type 0} (a b : ReadRefusal) → ◌≡◌ {A = Result V ReadRefusal} (Err a) (Err b) → a ≡ b
err_same a b h = cc

-- an answer that is told is one of a fault
pub told-err : {V : Type 0} (r : Result V Fault) (e : ReadRefusal) → told r ≡ Err e → (f : Fault) × (r ≡ Err f) × (e ≡ refusal f.line f.kind)
told-err (Ok v) e h = cc
told-err {V = V} (Err f) e h = (f, refl, sym (err_same {V = V} (refusal f.line f.kind) e h))

pub told-ok : {V : Type 0} (r : Result V Fault) (v : V) → told r ≡ Ok v → r ≡ Ok v
told-ok (Ok w) v h = cc
told-ok (Err f) v h = cc

-- single items

-- an item that gives an instruction
pub next-some : (o : Result (List Insn) Fault) (i : Insn) (old new : List Insn) → Ok (i ∷ []) ≡ told o → new ≡ old ++ i ∷ [] → Grows o old new
next-some o i old new is more = subst (λ x. Grows x old new) (sym (told-ok o (i ∷ []) (sym is))) more

-- an item that gives none
pub next-none : (o : Result (List Insn) Fault) (old : List Insn) → Ok [] ≡ told o → Grows o old old
next-none o old is = subst (λ x. Grows x old old) (sym (told-ok o [] (sym is))) (sym (append-nil old))

-- an item that is at fault
pub next-stops : (body before : List Item) (i : Item) (e : ReadRefusal) → Err e ≡ told (item_in body before i) → (e ≡ out_of_memory) ⊎ (told (item_in body before i) ≡ Err e)
next-stops body before i e is = inr (sym is)

-- items

module _ (r : List Item → Item → Result (List Insn) Fault) where
  then_by : (insns new found : List Insn) (later : Result (List Insn) Fault) → new ≡ insns ++ found
      → (later >>= λ more. Ok (found ++ more)) >>= (λ more. Ok (insns ++ more)) ≡ later >>= λ more. Ok (new ++ more)
  then_by insns new found (Ok more) grows = ap (λ (x : List Insn). Ok x) (sym (append_assoc insns found more) ∙ ap (λ (x : List Insn). x ++ more) (sym grows))
  then_by insns new found (Err e) grows = refl

  from_by : (before rest : List Item) (i : Item) (insns new : List Insn) (step : Result (List Insn) Fault) → Grows step insns new
      → (step >>= λ found. (all_of r (before ++ i ∷ []) rest >>= λ more. Ok (found ++ more))) >>= (λ more. Ok (insns ++ more))
      ≡ all_of r (before ++ i ∷ []) rest >>= λ more. Ok (new ++ more)
  from_by before rest i insns new (Ok found) grows = then_by insns new found (all_of r (before ++ i ∷ []) rest) grows
  from_by before rest i insns new (Err e) grows = absurd grows

  -- one item more
  pub from-next : (before rest : List Item) (i : Item) (insns new : List Insn) → Grows (r before i) insns new
      → all_of r before (i ∷ rest) >>= (λ more. Ok (insns ++ more)) ≡ all_of r (before ++ i ∷ []) rest >>= λ more. Ok (new ++ more)
  unfolding all_of
  from-next before rest i insns new grows = from_by before rest i insns new (r before i) grows

  stop_by : (before rest : List Item) (i : Item) (insns : List Insn) (step : Result (List Insn) Fault) (e : ReadRefusal) → told step ≡ Err e
      → told ((step >>= λ found. (all_of r (before ++ i ∷ []) rest >>= λ more. Ok (found ++ more))) >>= (λ more. Ok (insns ++ more))) ≡ Err e
  stop_by before rest i insns (Ok found) e h = cc
  stop_by before rest i insns (Err f) e h = h

  -- an item that is not read
  pub from-stop : (before rest : List Item) (i : Item) (insns : List Insn) (e : ReadRefusal) → told (r before i) ≡ Err e
      → told (all_of r before (i ∷ rest) >>= (λ more. Ok (insns ++ more))) ≡ Err e
  unfolding all_of
  from-stop before rest i insns e h = stop_by before rest i insns (r before i) e h

begin_by : (found : Result (List Insn) Fault) → found >>= (λ more. Ok ([] ++ more)) ≡ found
begin_by (Ok more) = refl
begin_by (Err e) = refl

-- the first item
pub body-begins : (body : List Item) (insns : List Insn) → insns ≡ [] → body_from body [] body insns ≡ body_in body
unfolding body_from body_in item_in
body-begins body insns none = ap (λ (x : List Insn). all_of (item_in body) [] body >>= λ more. Ok (x ++ more)) none ∙ begin_by (all_of (item_in body) [] body)

-- behind the last item
pub body-ends : (body before rest : List Item) (insns : List Insn) → rest ≡ [] → body_from body before rest insns ≡ Ok insns
unfolding body_from all_of
body-ends body before rest insns none =
    ap (λ (x : List Item). all_of (item_in body) before x >>= λ more. Ok (insns ++ more)) none ∙ ap (λ (x : List Insn). Ok x) (append-nil insns)

take_next : (items : List KeptItem) (n : ℕ) (d : KeptItem) → n < length items → take (n + 1) (map seen items) ≡ take n (map seen items) ++ seen (get_or items n d) ∷ []
take_next items n d within =
    let here : take (n + 1) items ≡ take n items ++ get_or items n d ∷ [] = rw add-one (take-suc items n d within) in
    take-map seen (n + 1) items ∙ ap (map seen) here ∙ map-append seen (take n items) (get_or items n d ∷ []) ∙ ap (λ (x : List Item). x ++ seen (get_or items n d) ∷ []) (sym (take-map seen n items))

module _ (kept : List KeptItem) (n : ℕ) (d : KeptItem) (within : n < length kept) where
  -- a turn of the loop that reads an item
  pub turn-next : (insns new : List Insn) → Grows (item_in (map seen kept) (take n (map seen kept)) (seen (get_or kept n d))) insns new
      → body_from (map seen kept) (take n (map seen kept)) (drop n (map seen kept)) insns
      ≡ body_from (map seen kept) (take (n + 1) (map seen kept)) (drop (n + 1) (map seen kept)) new
  unfolding body_from
  turn-next insns new grows =
      let body = map seen kept in
      let i : Item = seen (get_or kept n d) in
      ap (λ (x : List Item). all_of (item_in body) (take n body) x >>= λ more. Ok (insns ++ more)) (drop-map_seen kept n d within)
      ∙ from-next (item_in body) (take n body) (drop (n + 1) body) i insns new grows
      ∙ ap (λ (x : List Item). all_of (item_in body) x (drop (n + 1) body) >>= λ more. Ok (new ++ more)) (sym (take_next kept n d within))

  -- a turn that stops
  pub turn-stops : (insns : List Insn) (e : ReadRefusal) → told (item_in (map seen kept) (take n (map seen kept)) (seen (get_or kept n d))) ≡ Err e
      → told (body_from (map seen kept) (take n (map seen kept)) (drop n (map seen kept)) insns) ≡ Err e
  unfolding body_from
  turn-stops insns e stops =
      let body = map seen kept in
      ap (λ (x : List Item). told (all_of (item_in body) (take n body) x >>= λ more. Ok (insns ++ more))) (drop-map_seen kept n d within)
      ∙ from-stop (item_in body) (take n body) (drop (n + 1) body) (seen (get_or kept n d)) insns e stops

-- an item that is read gives as many instructions as it is
code_grows : (before : List Item) (x : List ℕ) (k : ℕ) (found : Result Insn ReadKind) (insns new : List Insn)
    → Grows (at_line k found >>= counted (count_by is_code before) k) insns new → length new ≡ length insns + 1
code_grows before x k (Err kind) insns new grows = absurd grows
code_grows before x k (Ok i) insns new grows =
    elim (ltb (count_by is_code before) 4096) as (λ (t : Bool). Grows (cond t (Ok (i ∷ [])) (Err (fault k TooManyInsns))) insns new → length new ≡ length insns + 1)
    [ true ↦ λ g. omega (arith, ap length g, length-append insns (i ∷ [])) | false ↦ λ g. absurd g ] grows

none_grows : (t : Bool) (f : Fault) (insns new : List Insn) → Grows (cond t (Err f) (Ok [])) insns new → length new ≡ length insns
none_grows true f insns new grows = absurd grows
none_grows false f insns new grows = omega (arith, ap length grows, length-append insns [])

grows_by : (r : List ℕ → ℕ → Result Insn ReadKind) (before : List Item) (i : Item) (insns new : List Insn) → Grows (item_of r before i) insns new
    → length new ≡ length insns + cond (is_code i) 1 0
grows_by r before (Label name k) insns new grows = let e = none_grows (list_any (is_label name) before) (fault k TwiceLabel) insns new grows in omega arith
grows_by r before (Statement x k) insns new grows =
    elim (is_directive x) as (λ (t : Bool). Grows (cond t (cond (is_data x) (Err (fault k DataInBody)) (Ok [])) (at_line k (r x (line_number k)) >>= counted (count_by is_code before) k)) insns new
    → length new ≡ length insns + cond {A = ℕ} (not t) 1 0) [
      | true ↦ λ g. let e = none_grows (is_data x) (fault k DataInBody) insns new g in omega arith
      | false ↦ λ g. code_grows before x k (r x (line_number k)) insns new g
    ] grows

-- so as many are read as stand before the next item
pub turn-counts : (kept : List KeptItem) (n : ℕ) (d : KeptItem) (insns new : List Insn) → n < length kept → length insns ≡ count_by is_code (take n (map seen kept))
    → Grows (item_in (map seen kept) (take n (map seen kept)) (seen (get_or kept n d))) insns new → length new ≡ count_by is_code (take (n + 1) (map seen kept))
unfolding item_in
turn-counts kept n d insns new within before grows =
    let i : Item = seen (get_or kept n d) in
    let more = grows_by (statement_of (target_of (map seen kept))) (take n (map seen kept)) i insns new grows in
    let whole : count_by is_code (take (n + 1) (map seen kept)) ≡ count_by is_code (take n (map seen kept) ++ i ∷ []) = ap (count_by is_code) (take_next kept n d within) in
    omega (arith, count-push is_code (take n (map seen kept)) i)

-- whole texts

module _ (name : List ℕ) (lines_of : ℕ) (items : List Item) where
  -- no label has the name
  pub text-missing : extent_of name items ≡ None → told (insns_in statement_of name lines_of items) ≡ Err (refusal 0 NoFunction)
  text-missing none = rw none refl

  module _ (body after : List Item) (found : extent_of name items ≡ Some (body, after)) where
    -- the body has a fault
    pub text-stops : (e : ReadRefusal) → told (body_in body) ≡ Err e → told (insns_in statement_of name lines_of items) ≡ Err e
    unfolding body_in item_in
    text-stops e stops = let f = told-err (body_in body) e stops in rw found (rw f.1 (ap (λ (x : ReadRefusal). Err x) (sym f.2)))

    -- the last instruction leaves
    pub text-closed : (insns : List Insn) → told (body_in body) ≡ Ok insns → leaves insns ≡ true → told (insns_in statement_of name lines_of items) ≡ Ok insns
    unfolding body_in item_in
    text-closed insns read closed = let e = told-ok (body_in body) insns read in rw (found, e, closed) refl

    -- it goes on
    pub text-open : (insns : List Insn) → told (body_in body) ≡ Ok insns → leaves insns ≡ false
        → told (insns_in statement_of name lines_of items) ≡ Err (refusal (last_line lines_of body after) FallsOff)
    unfolding body_in item_in
    text-open insns read goes_on = let e = told-ok (body_in body) insns read in rw (found, e, goes_on) refl

-- the turns of the loop over a body

pub turn-goes : (kept : List KeptItem) (n : ℕ) (d : KeptItem) (labels : List Item) (insns new : List Insn) → labels ≡ map seen kept → n < length kept
    → Grows (item_in labels (take n labels) (seen (get_or kept n d))) insns new
    → (body_from (map seen kept) (take n (map seen kept)) (drop n (map seen kept)) insns ≡ body_in (map seen kept)) × (length insns ≡ count_by is_code (take n (map seen kept)))
    → (body_from (map seen kept) (take (n + 1) (map seen kept)) (drop (n + 1) (map seen kept)) new ≡ body_in (map seen kept))
    × (length new ≡ count_by is_code (take (n + 1) (map seen kept)))
turn-goes kept n d labels insns new same within grows before =
    let moved = subst (λ (x : List Item). Grows (item_in x (take n x) (seen (get_or kept n d))) insns new) same grows in
    (sym (turn-next kept n d within insns new moved) ∙ before.0, turn-counts kept n d insns new within before.1 moved)

pub turn-fails : (kept : List KeptItem) (n : ℕ) (d : KeptItem) (labels : List Item) (insns : List Insn) (e : ReadRefusal) → labels ≡ map seen kept → n < length kept
    → ((e ≡ out_of_memory) ⊎ (told (item_in labels (take n labels) (seen (get_or kept n d))) ≡ Err e))
    → body_from (map seen kept) (take n (map seen kept)) (drop n (map seen kept)) insns ≡ body_in (map seen kept)
    → ((e ≡ out_of_memory) ⊎ (told (body_in (map seen kept)) ≡ Err e))
turn-fails kept n d labels insns e same within stops before =
    let moved = subst (λ (x : List Item). ((e ≡ out_of_memory) ⊎ (told (item_in x (take n x) (seen (get_or kept n d))) ≡ Err e))) same stops in
    unless-map (λ h. ap told (sym before) ∙ turn-stops kept n d within insns e h) moved

pub turn-last : (kept : List KeptItem) (n : ℕ) (insns : List Insn) → length kept ≤ n
    → body_from (map seen kept) (take n (map seen kept)) (drop n (map seen kept)) insns ≡ body_in (map seen kept) → told (body_in (map seen kept)) ≡ Ok insns
turn-last kept n insns past before =
    ap told (sym before ∙ body-ends (map seen kept) (take n (map seen kept)) (drop n (map seen kept)) insns (items-gone kept n past))

-- the items of a text, as they are kept
module _ (text name : List ℕ) (items slice : List KeptItem) (is : map seen items ≡ items_of_text text) (same : slice ≡ items) where
  kept_items : map seen slice ≡ items_of_text text
  kept_items = ap (map seen) same ∙ is

  pub whole-missing : None ≡ extent_of name (map seen slice) → told (insns_of_text text name) ≡ Err (refusal 0 NoFunction)
  unfolding insns_of_text
  whole-missing none = text-missing name (length (lines text)) (items_of_text text) (ap (extent_of name) (sym kept_items) ∙ sym none)

  module _ (body after : List Item) (found : Some (body, after) ≡ extent_of name (map seen slice)) where
    found_there : extent_of name (items_of_text text) ≡ Some (body, after)
    found_there = ap (extent_of name) (sym kept_items) ∙ sym found

    pub whole-stops : (e : ReadRefusal) → ((e ≡ out_of_memory) ⊎ (told (body_in body) ≡ Err e)) → ((e ≡ out_of_memory) ⊎ (told (insns_of_text text name) ≡ Err e))
    unfolding insns_of_text
    whole-stops e stops = unless-map (text-stops name (length (lines text)) (items_of_text text) body after found_there e) stops

    pub whole-closed : (insns : List Insn) → told (body_in body) ≡ Ok insns → leaves insns ≡ true → told (insns_of_text text name) ≡ Ok insns
    unfolding insns_of_text
    whole-closed insns read closed = text-closed name (length (lines text)) (items_of_text text) body after found_there insns read closed

    pub whole-open : (count line : ℕ) (insns : List Insn) → count ≡ length (lines text) → line ≡ last_line count body after → told (body_in body) ≡ Ok insns → leaves insns ≡ false
        → told (insns_of_text text name) ≡ Err (refusal line FallsOff)
    unfolding insns_of_text
    whole-open count line insns counted last read goes_on =
        text-open name (length (lines text)) (items_of_text text) body after found_there insns read goes_on
        ∙ ap (λ n. Err (refusal n FallsOff)) (sym (last ∙ ap (λ n. last_line n body after) counted))
