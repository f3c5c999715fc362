-- A draft follows its lines: what it tells of them, which lines go over, and that its admission is well formed.
use Rattle.std.proofs.Common.{◌≡◌, ℕ, ◌+◌, ◌<◌, ◌≤◌, ◌⊎◌, inl, inr, Bool, true, false, ◌||◌, cond, leb, List, [], ◌∷◌, ◌++◌, length, map, Option, Some, None, codes, refl, sym, ap, ◌∙◌, subst, append-nil, length-append, arith}
use Rattle.std.specs.List.{AllByRecursion, AllZip, cons_option, filter}
use Rattle.std.proofs.lemmas.Bool.{cases_lt, leb-false, le-leb, lt-leb}
use Rattle.std.proofs.lemmas.List.{length-map, map-append}
use Rattle.std.proofs.lemmas.List.Elements.{filter-append, filter_map-append}
use Rattle.std.proofs.lemmas.List.Folds.{list_any-append}
use Rattle.std.proofs.lemmas.Option.{slice_get_within}
use Rattle.insn_ops.specs.declared.output.Output.{Output}
use Rattle.insn_ops.specs.declared.output.Output.TheVariants.{Reg, Vec}
use Rattle.insn_ops.specs.Outputs.{IsOutput, IsWidth}
use Rattle.admission.specs.declared.expr.Expr.{Expr}
use Rattle.admission.specs.declared.admission.Need.{Need}
use Rattle.admission.specs.declared.admission.Need.TheVariants.{Compare, Modulo}
use Rattle.admission.specs.declared.admission.RegionLine.{RegionLine}
use Rattle.admission.specs.declared.admission.Admission.{Admission}
use Rattle.admission.specs.WellFormed.{AreBounds, IsNeed, IsWellFormed}
use Rattle.admission_text.specs.declared.entry.Draft.{Draft}
use Rattle.admission_text.specs.declared.entry.Entry.{Entry}
use Rattle.admission_text.specs.declared.entry.Entry.TheVariants as entries
use Rattle.register_names.specs.Names.{IsNamedWidth}
use Rattle.register_names.proofs.NameTexts.{names_there}
use Rattle.admission_text.specs.Names.{IsOutputText}
use Rattle.admission_text.specs.Grammar.{IsEntry, IsRequireEntry, Line, has_line, is_of, name_in, region_names, region_number}
use Rattle.admission_text.specs.Entries.{count_of, goes_over, no_admission, with_entry}
use Rattle.admission_text.specs.ReadingLines.{drafted_with, is_live, is_over, is_stack, no_draft}
use Rattle.admission_text.proofs.EntryTexts.{is_headed, Tells}
use Rattle.text_parts.proofs.PlaceLaws.{place-found}
use Rattle.admission_text.proofs.Terms.{expr-sound}

-- what an entry says of the words that spell it

abbrev is_region : Entry → Bool
is_region (entries.Region r) = true
is_region _ = false

abbrev is_require : Entry → Bool
is_require (entries.Require n) = true
is_require _ = false

abbrev is_apart : Entry → Bool
is_apart (entries.Apart i j) = true
is_apart _ = false

abbrev is_scratch : Entry → Bool
is_scratch (entries.Scratch base len) = true
is_scratch _ = false

abbrev named : Entry → Option (List ℕ)
named (entries.Region r) = Some r.name
named _ = None

record Says (words : List (List ℕ)) (e : Entry) : Type 0 where
  name : name_in words ≡ named e
  stack : is_of (codes "stack") words ≡ is_stack e
  live : is_of (codes "live") words ≡ is_live e
  region : is_of (codes "region") words ≡ is_region e
  require : is_of (codes "require") words ≡ is_require e
  apart : is_of (codes "apart") words ≡ is_apart e
  scratch : is_of (codes "scratch") words ≡ is_scratch e

says-live : (outs : List (List ℕ)) (live : List Output) → Says (codes "live" ∷ outs) (entries.Live live)
says-live [] live = record { name = refl; stack = refl; live = refl; region = refl; require = refl; apart = refl; scratch = refl }
says-live (o ∷ os) live = record { name = refl; stack = refl; live = refl; region = refl; require = refl; apart = refl; scratch = refl }

says-require : (words : List (List ℕ)) (n : Need) → IsRequireEntry words n → Says words (entries.Require n)
says-require words (Compare a rel b) is =
    subst (λ (ws : List (List ℕ)). Says ws (entries.Require (Compare a rel b))) (sym is.2)
    (record { name = refl; stack = refl; live = refl; region = refl; require = refl; apart = refl; scratch = refl })
says-require words (Modulo a m r) is =
    subst (λ (ws : List (List ℕ)). Says ws (entries.Require (Modulo a m r))) (sym is.3)
    (record { name = refl; stack = refl; live = refl; region = refl; require = refl; apart = refl; scratch = refl })

says : (before : List Line) (words : List (List ℕ)) (e : Entry) → IsEntry before words e → Says words e
says before words entries.Header is =
    subst (λ (ws : List (List ℕ)). Says ws entries.Header) (sym is.1) (record { name = refl; stack = refl; live = refl; region = refl; require = refl; apart = refl; scratch = refl })
says before words (entries.Region r) is =
    subst (λ (ws : List (List ℕ)). Says ws (entries.Region r)) (sym is.1.spelled)
    (record { name = refl; stack = refl; live = refl; region = refl; require = refl; apart = refl; scratch = refl })
says before words (entries.Require n) is = says-require words n is.1
says before words (entries.Apart i j) is =
    subst (λ (ws : List (List ℕ)). Says ws (entries.Apart i j)) (sym is.1.2)
    (record { name = refl; stack = refl; live = refl; region = refl; require = refl; apart = refl; scratch = refl })
says before words (entries.Scratch base len) is =
    subst (λ (ws : List (List ℕ)). Says ws (entries.Scratch base len)) (sym is.1.2)
    (record { name = refl; stack = refl; live = refl; region = refl; require = refl; apart = refl; scratch = refl })
says before words (entries.Stack n) is =
    subst (λ (ws : List (List ℕ)). Says ws (entries.Stack n)) (sym is.1.1)
    (record { name = refl; stack = refl; live = refl; region = refl; require = refl; apart = refl; scratch = refl })
says before words (entries.Live live) is = subst (λ (ws : List (List ℕ)). Says ws (entries.Live live)) (sym is.1.1) (says-live is.1.0 live)

-- one line more

or_false : (x : Bool) → (x || false) ≡ x
or_false true = refl
or_false false = refl

headed-more : (before : List Line) (l : Line) → true ≡ is_headed (before ++ l ∷ [])
headed-more [] l = refl
headed-more (b ∷ bs) l = refl

has-more : (word : List ℕ) (before : List Line) (l : Line) → has_line word (before ++ l ∷ []) ≡ (has_line word before || is_of word l.words)
has-more word before l =
    list_any-append (λ (x : Line). is_of word x.words) before (l ∷ []) ∙ ap (λ (t : Bool). has_line word before || t) (or_false (is_of word l.words))

abbrev one_if : Bool → ℕ
one_if t = cond t 1 0

length-one_if : (word : List ℕ) (l : Line) (t : Bool) → length (cond t (l ∷ []) []) ≡ one_if t
length-one_if word l true = refl
length-one_if word l false = refl

count-more : (word : List ℕ) (before : List Line) (l : Line) → count_of word (before ++ l ∷ []) ≡ count_of word before + one_if (is_of word l.words)
count-more word before l =
    ap length (filter-append (λ (x : Line). is_of word x.words) before (l ∷ [])) ∙ length-append (filter (λ (x : Line). is_of word x.words) before) (filter (λ (x : Line). is_of word x.words) (l ∷ []))
    ∙ ap (λ (n : ℕ). count_of word before + n) (length-one_if word l (is_of word l.words))

names-more : (a : Admission) (e : Entry) → map (λ (r : RegionLine). r.name) (with_entry a e).regions ≡ map (λ (r : RegionLine). r.name) a.regions ++ cons_option (named e) []
names-more a entries.Header = sym (append-nil _)
names-more a (entries.Region r) = map-append (λ (x : RegionLine). x.name) a.regions (r ∷ [])
names-more a (entries.Require n) = sym (append-nil _)
names-more a (entries.Apart i j) = sym (append-nil _)
names-more a (entries.Scratch base len) = sym (append-nil _)
names-more a (entries.Stack n) = sym (append-nil _)
names-more a (entries.Live live) = sym (append-nil _)

record Grows (a : Admission) (e : Entry) : Type 0 where
  regions : length (with_entry a e).regions ≡ length a.regions + one_if (is_region e)
  needs : length (with_entry a e).needs ≡ length a.needs + one_if (is_require e)
  aparts : length (with_entry a e).aparts ≡ length a.aparts + one_if (is_apart e)
  scratch : length (with_entry a e).scratch ≡ length a.scratch + one_if (is_scratch e)

same-length : (n : ℕ) → n ≡ n + 0
same-length n = omega arith

grows : (a : Admission) (e : Entry) → Grows a e
grows a entries.Header = record { regions = same-length _; needs = same-length _; aparts = same-length _; scratch = same-length _ }
grows a (entries.Region r) = record { regions = length-append a.regions (r ∷ []); needs = same-length _; aparts = same-length _; scratch = same-length _ }
grows a (entries.Require n) = record { regions = same-length _; needs = length-append a.needs (n ∷ []); aparts = same-length _; scratch = same-length _ }
grows a (entries.Apart i j) = record { regions = same-length _; needs = same-length _; aparts = length-append a.aparts ((i, j) ∷ []); scratch = same-length _ }
grows a (entries.Scratch base len) = record { regions = same-length _; needs = same-length _; aparts = same-length _; scratch = length-append a.scratch ((base, len) ∷ []) }
grows a (entries.Stack n) = record { regions = same-length _; needs = same-length _; aparts = same-length _; scratch = same-length _ }
grows a (entries.Live live) = record { regions = same-length _; needs = same-length _; aparts = same-length _; scratch = same-length _ }

counted : (word : List ℕ) (before : List Line) (l : Line) (old new : ℕ) (t : Bool) → old ≡ count_of word before → is_of word l.words ≡ t → new ≡ old + one_if t
    → new ≡ count_of word (before ++ l ∷ [])
counted word before l old new t told is grown =
    grown ∙ ap (λ (n : ℕ). n + one_if t) told ∙ ap (λ (b : Bool). count_of word before + one_if b) (sym is) ∙ sym (count-more word before l)

noted : (word : List ℕ) (before : List Line) (l : Line) (old t : Bool) → old ≡ has_line word before → is_of word l.words ≡ t → (old || t) ≡ has_line word (before ++ l ∷ [])
noted word before l old t told is =
    ap (λ (b : Bool). b || t) told ∙ ap (λ (b : Bool). has_line word before || b) (sym is) ∙ sym (has-more word before l)

-- before the first line
pub tells-none : Tells [] no_draft
tells-none = record { headed = refl; names = refl; stacked = refl; lived = refl; regions = refl; needs = refl; aparts = refl; scratch = refl }

-- behind a line more
pub tells-more : (before : List Line) (d : Draft) (l : Line) (e : Entry) → Tells before d → IsEntry before l.words e → Tells (before ++ l ∷ []) (drafted_with d e)
tells-more before d l e tells is =
    let s = says before l.words e is in
    let g = grows d.admission e in
    record {
      headed = headed-more before l;
      names =
          names-more d.admission e ∙ ap (λ (ns : List (List ℕ)). ns ++ cons_option (named e) []) tells.names
          ∙ ap (λ (o : Option (List ℕ)). region_names before ++ cons_option o []) (sym s.name)
          ∙ sym (filter_map-append (λ (x : Line). name_in x.words) before (l ∷ []));
      stacked = noted (codes "stack") before l d.stacked (is_stack e) tells.stacked s.stack;
      lived = noted (codes "live") before l d.lived (is_live e) tells.lived s.live;
      regions = counted (codes "region") before l (length d.admission.regions) _ (is_region e) tells.regions s.region g.regions;
      needs = counted (codes "require") before l (length d.admission.needs) _ (is_require e) tells.needs s.require g.needs;
      aparts = counted (codes "apart") before l (length d.admission.aparts) _ (is_apart e) tells.aparts s.apart g.aparts;
      scratch = counted (codes "scratch") before l (length d.admission.scratch) _ (is_scratch e) tells.scratch s.scratch g.scratch;
    }

-- lines that go over

zip-length : (outs : List (List ℕ)) (live : List Output) → AllZip IsOutputText outs live → length outs ≡ length live
zip-length [] [] h = refl
zip-length [] (o ∷ os) h = absurd h
zip-length (w ∷ ws) [] h = absurd h
zip-length (w ∷ ws) (o ∷ os) h = let e = zip-length ws os h.1 in omega arith

leb-suc : (m n : ℕ) → leb (m + 1) (n + 1) ≡ leb m n
leb-suc m n = elim (cases_lt n m) [
  | inl below ↦ lt-leb (m + 1) (n + 1) (omega arith) ∙ sym (lt-leb m n below)
  | inr above ↦ le-leb (m + 1) (n + 1) (omega arith) ∙ sym (le-leb m n above)
]

live-over : (before : List Line) (outs : List (List ℕ)) (live : List Output) → AllZip IsOutputText outs live → leb 17 (length live) ≡ goes_over before (codes "live" ∷ outs)
live-over before outs live h =
    let count : length (codes "live" ∷ outs) ≡ length live + 1 = omega (arith, zip-length outs live h) in
    sym (ap (λ (n : ℕ). leb 18 n) count ∙ leb-suc 17 (length live))

over-one : (x : Bool) → x ≡ ((x || false) || false)
over-one true = refl
over-one false = refl

require-over : (before : List Line) (words : List (List ℕ)) (n : Need) → IsRequireEntry words n → leb 32 (count_of (codes "require") before) ≡ goes_over before words
require-over before words (Compare a rel b) is =
    over-one (leb 32 (count_of (codes "require") before)) ∙ ap (goes_over before) (sym is.2)
require-over before words (Modulo a m r) is =
    over-one (leb 32 (count_of (codes "require") before)) ∙ ap (goes_over before) (sym is.3)

-- the code's test of a line is that of the grammar
pub over-same : (before : List Line) (d : Draft) (words : List (List ℕ)) (e : Entry) → Tells before d → IsEntry before words e → is_over d e ≡ goes_over before words
over-same before d words entries.Header tells is = ap (goes_over before) (sym is.1)
over-same before d words (entries.Region r) tells is =
    ap (λ (n : ℕ). leb 8 n) tells.regions ∙ over-one (leb 8 (count_of (codes "region") before)) ∙ ap (goes_over before) (sym is.1.spelled)
over-same before d words (entries.Require n) tells is = ap (λ (k : ℕ). leb 32 k) tells.needs ∙ require-over before words n is.1
over-same before d words (entries.Apart i j) tells is =
    ap (λ (n : ℕ). leb 28 n) tells.aparts ∙ over-one (leb 28 (count_of (codes "apart") before)) ∙ ap (goes_over before) (sym is.1.2)
over-same before d words (entries.Scratch base len) tells is =
    ap (λ (n : ℕ). leb 4 n) tells.scratch ∙ over-one (leb 4 (count_of (codes "scratch") before)) ∙ ap (goes_over before) (sym is.1.2)
over-same before d words (entries.Stack n) tells is = ap (goes_over before) (sym is.1.1)
over-same before d words (entries.Live live) tells is = live-over before is.1.0 live is.1.2 ∙ ap (goes_over before) (sym is.1.1)

-- the admission of a draft is well formed

all-push : {X : Type 0} (P : X → Type 0) (xs : List X) (x : X) → AllByRecursion P xs → P x → AllByRecursion P (xs ++ x ∷ [])
all-push P [] x all here = (here, tt)
all-push P (y ∷ ys) x all here = (all.0, all-push P ys x all.1 here)

all-weaker : {X : Type 0} (P Q : X → Type 0) → ((x : X) → P x → Q x) → (xs : List X) → AllByRecursion P xs → AllByRecursion Q xs
all-weaker P Q weaker [] all = tt
all-weaker P Q weaker (x ∷ xs) all = (weaker x all.0, all-weaker P Q weaker xs all.1)

inside-more : (regions : List RegionLine) (r : RegionLine) (aparts : List (ℕ × ℕ)) → AllByRecursion (λ (p : ℕ × ℕ). (p.0 < length regions) × (p.1 < length regions)) aparts
    → AllByRecursion (λ (p : ℕ × ℕ). (p.0 < length (regions ++ r ∷ [])) × (p.1 < length (regions ++ r ∷ []))) aparts
inside-more regions r aparts all =
    let longer = length-append regions (r ∷ []) in
    all-weaker (λ (p : ℕ × ℕ). (p.0 < length regions) × (p.1 < length regions)) (λ (p : ℕ × ℕ). (p.0 < length (regions ++ r ∷ [])) × (p.1 < length (regions ++ r ∷ [])))
    (λ p inside. (omega (arith, inside.0), omega (arith, inside.1))) aparts all

width-by : (w : ℕ) → IsNamedWidth w → w ≤ 64 → IsWidth w
width-by w (inl e) low = inr (inr (inr e))
width-by w (inr (inl e)) low = inr (inr (inl e))
width-by w (inr (inr (inl e))) low = inr (inl e)
width-by w (inr (inr (inr (inl e)))) low = inl e
width-by w (inr (inr (inr (inr (inl e))))) low = absurd (omega arith)
width-by w (inr (inr (inr (inr (inr e))))) low = absurd (omega arith)

vector-by : (w : ℕ) → IsNamedWidth w → 64 < w → (w ≡ 128) ⊎ (w ≡ 256)
vector-by w (inl e) high = absurd (omega arith)
vector-by w (inr (inl e)) high = absurd (omega arith)
vector-by w (inr (inr (inl e))) high = absurd (omega arith)
vector-by w (inr (inr (inr (inl e)))) high = absurd (omega arith)
vector-by w (inr (inr (inr (inr e)))) high = e

output-sound : (text : List ℕ) (o : Output) → IsOutputText text o → IsOutput o
output-sound text (Reg n w) is = let p = names_there.alone is.0.name w n is.0.known in (p.1, width-by w p.0 is.1)
output-sound text (Vec n w) is = let p = names_there.alone is.0.name w n is.0.known in (p.1, vector-by w p.0 is.1)

outputs-sound : (outs : List (List ℕ)) (live : List Output) → AllZip IsOutputText outs live → AllByRecursion IsOutput live
outputs-sound [] [] h = tt
outputs-sound [] (o ∷ os) h = absurd h
outputs-sound (w ∷ ws) [] h = absurd h
outputs-sound (w ∷ ws) (o ∷ os) h = (output-sound w o h.0, outputs-sound ws os h.1)

need-sound : (words : List (List ℕ)) (n : Need) → IsRequireEntry words n → IsNeed n
need-sound words (Compare a rel b) is = (expr-sound is.0 a is.3, expr-sound is.1 b is.4)
need-sound words (Modulo a m r) is = (expr-sound is.0 a is.4, is.7, is.8)

number-inside : (before : List Line) (d : Draft) (name : List ℕ) (i : ℕ) → Tells before d → region_number name (region_names before) ≡ Some i → i < length d.admission.regions
number-inside before d name i tells is =
    let inside = slice_get_within (region_names before) i name (place-found (region_names before) name i is) in
    omega (arith, inside, ap length tells.names, length-map d.admission.regions (λ (r : RegionLine). r.name))

pub formed-none : IsWellFormed no_admission
formed-none = record {
  few_regions = omega arith;
  few_needs = omega arith;
  few_aparts = omega arith;
  few_scratch = omega arith;
  few_live = omega arith;
  regions = tt;
  needs = tt;
  aparts = tt;
  scratch = tt;
  live = tt;
  stack_words = refl;
  stack_small = omega arith;
}

pub formed-more : (before : List Line) (d : Draft) (words : List (List ℕ)) (e : Entry) → Tells before d → IsEntry before words e → is_over d e ≡ false
    → IsWellFormed d.admission → IsWellFormed (with_entry d.admission e)
formed-more before d words entries.Header tells is within w = w
formed-more before d words (entries.Region r) tells is within w =
    let room = leb-false 8 (length d.admission.regions) within in
    record {
      few_regions = omega (arith, length-append d.admission.regions (r ∷ []));
      few_needs = w.few_needs;
      few_aparts = w.few_aparts;
      few_scratch = w.few_scratch;
      few_live = w.few_live;
      regions = all-push (λ (x : RegionLine). AreBounds x.base x.len) d.admission.regions r w.regions (expr-sound is.1.base r.base is.1.base_is, expr-sound is.1.len r.len is.1.len_is);
      needs = w.needs;
      aparts = inside-more d.admission.regions r d.admission.aparts w.aparts;
      scratch = w.scratch;
      live = w.live;
      stack_words = w.stack_words;
      stack_small = w.stack_small;
    }
formed-more before d words (entries.Require n) tells is within w =
    let room = leb-false 32 (length d.admission.needs) within in
    record {
      few_regions = w.few_regions;
      few_needs = omega (arith, length-append d.admission.needs (n ∷ []));
      few_aparts = w.few_aparts;
      few_scratch = w.few_scratch;
      few_live = w.few_live;
      regions = w.regions;
      needs = all-push IsNeed d.admission.needs n w.needs (need-sound words n is.1);
      aparts = w.aparts;
      scratch = w.scratch;
      live = w.live;
      stack_words = w.stack_words;
      stack_small = w.stack_small;
    }
formed-more before d words (entries.Apart i j) tells is within w =
    let room = leb-false 28 (length d.admission.aparts) within in
    record {
      few_regions = w.few_regions;
      few_needs = w.few_needs;
      few_aparts = omega (arith, length-append d.admission.aparts ((i, j) ∷ []));
      few_scratch = w.few_scratch;
      few_live = w.few_live;
      regions = w.regions;
      needs = w.needs;
      aparts = all-push (λ (p : ℕ × ℕ). (p.0 < length d.admission.regions) × (p.1 < length d.admission.regions)) d.admission.aparts (i, j) w.aparts
          (number-inside before d is.1.0 i tells is.1.3, number-inside before d is.1.1 j tells is.1.4);
      scratch = w.scratch;
      live = w.live;
      stack_words = w.stack_words;
      stack_small = w.stack_small;
    }
formed-more before d words (entries.Scratch base len) tells is within w =
    let room = leb-false 4 (length d.admission.scratch) within in
    record {
      few_regions = w.few_regions;
      few_needs = w.few_needs;
      few_aparts = w.few_aparts;
      few_scratch = omega (arith, length-append d.admission.scratch ((base, len) ∷ []));
      few_live = w.few_live;
      regions = w.regions;
      needs = w.needs;
      aparts = w.aparts;
      scratch = all-push (λ (s : Expr × Expr). AreBounds s.0 s.1) d.admission.scratch (base, len) w.scratch (expr-sound is.1.0 base is.1.3, expr-sound is.1.1 len is.1.4);
      live = w.live;
      stack_words = w.stack_words;
      stack_small = w.stack_small;
    }
formed-more before d words (entries.Stack n) tells is within w =
    record {
      few_regions = w.few_regions;
      few_needs = w.few_needs;
      few_aparts = w.few_aparts;
      few_scratch = w.few_scratch;
      few_live = w.few_live;
      regions = w.regions;
      needs = w.needs;
      aparts = w.aparts;
      scratch = w.scratch;
      live = w.live;
      stack_words = is.1.3;
      stack_small = is.1.4;
    }
formed-more before d words (entries.Live live) tells is within w =
    let room = leb-false 17 (length live) within in
    record {
      few_regions = w.few_regions;
      few_needs = w.few_needs;
      few_aparts = w.few_aparts;
      few_scratch = w.few_scratch;
      few_live = omega arith;
      regions = w.regions;
      needs = w.needs;
      aparts = w.aparts;
      scratch = w.scratch;
      live = outputs-sound is.1.0 live is.1.2;
      stack_words = w.stack_words;
      stack_small = w.stack_small;
    }
