-- What is read of a whole text is right, and only that is.
use Rattle.std.proofs.Common.{◌≡◌, ℕ, ◌+◌, ◌≤◌, inl, inr, Bool, true, false, cond, List, [], ◌∷◌, ◌++◌, Option, Some, None, Result, Ok, Err, IfOk, refl, sym, ap, ◌∙◌, subst, append-nil, append_assoc, arith, ◌⊎◌}
use Rattle.std.proofs.lemmas.Bool.{both_ways}
use Rattle.outcomes.specs.Answering.{Answers, Gives}
use Rattle.outcomes.specs.Firsts.{◌>>=◌, HasFault, IsFirst, Precedes}
use Rattle.outcomes.proofs.Answering.{unless-map}
use Rattle.outcomes.proofs.FirstFaults.{AreAll, ComesFirst, IsOutcome, fault-cases, fault-here, fault-none, first-alone, outcome-then, placed-first}
use Rattle.admission.specs.declared.admission.Admission.{Admission}
use Rattle.admission.specs.WellFormed.{IsWellFormed}
use Rattle.admission_text.specs.declared.entry.Draft.{Draft}
use Rattle.admission_text.specs.declared.entry.Entry.{Entry}
use Rattle.admission.specs.declared.refusal.AdmitRefusal.{AdmitRefusal}
use Rattle.admission.specs.declared.refusal.AdmitRefusal.TheVariants.{BadLine, TooMany, NoLive, Memory}
use Rattle.text_parts.specs.Cuts.{parts}
use Rattle.admission_text.specs.Grammar.{IsEntry, Line, is_skipped, lines_from, lines_of}
use Rattle.admission_text.specs.Entries.{AreEntries, IsAdmissionText, goes_over, with_entries}
use Rattle.admission_text.specs.Refusals.{Dead, Faulty, IsLineFault, IsAdmissionRefusal, fault_line, given, line_number, rank}
use Rattle.admission_text.specs.Reading.{entry_of}
use Rattle.admission_text.specs.ReadingLines.{admission_of, behind_line, behind_lines, drafted_with, finished, is_over, judged, next_line, no_draft}
use Rattle.admission_text.proofs.EntryTexts.{Tells, entry-known, entry-only}
use Rattle.admission_text.proofs.Drafts.{formed-more, formed-none, over-same, tells-more, tells-none}
use Rattle.text_parts.proofs.WordTexts.{first-same, rest-same}

-- the entries of lines, one after another, with true numbers of lines

abbrev entry_then : ℕ → Draft → Option Entry → (Entry → Result (List Entry) AdmitRefusal) → Result (List Entry) AdmitRefusal
entry_then n d None more = Err (BadLine n)
entry_then n d (Some e) more = cond (is_over d e) (Err (TooMany n)) (more e >>= λ es. Ok (e ∷ es))

unfoldable read_all : ℕ → Draft → List (List ℕ) → Result (List Entry) AdmitRefusal
read_all n d [] = Ok []
read_all n d (t ∷ ts) = cond (is_skipped t) (read_all (n + 1) d ts) (entry_then n d (entry_of d t) (λ e. read_all (n + 1) (drafted_with d e) ts))

-- the order of faults
abbrev LineOrder : AdmitRefusal → AdmitRefusal → Type 0
LineOrder e other = Precedes fault_line rank e other

-- what is read of a line
abbrev IsRead : List Line → Line → List Entry → Type 0
IsRead before l found = (e : Entry) × (found ≡ e ∷ []) × IsEntry before l.words e × (goes_over before l.words ≡ false)

fault-at : (before : List Line) (l : Line) (e : AdmitRefusal) → IsLineFault before l e → fault_line e ≡ l.number
fault-at before l e (inl p) = ap fault_line p.0
fault-at before l e (inr p) = ap fault_line p.0

-- lines are numbered upwards
lines-above : (ts : List (List ℕ)) (m : ℕ) (before : List Line) (item : Line) (after : List Line) → lines_from m ts ≡ before ++ item ∷ after → m ≤ item.number
lines-above [] m [] item after is = absurd (cc)
lines-above [] m (b ∷ before) item after is = absurd (cc)
lines-above (t ∷ ts) m before item after is = by_skip (λ front. lines-above ts (m + 1) front item after) (is_skipped t) before is
  where
    by_skip : ((front : List Line) → lines_from (m + 1) ts ≡ front ++ item ∷ after → m + 1 ≤ item.number) → (skip : Bool) (front : List Line) → cond skip (lines_from (m + 1) ts) (record { number = m; words = parts 32 t } ∷ lines_from (m + 1) ts) ≡ front ++ item ∷ after → m ≤ item.number
    by_skip later true front e = let above = later front e in omega arith
    by_skip later false [] e = let same : m ≡ item.number = ap (λ (x : Line). x.number) (first-same e) in omega arith
    by_skip later false (b ∷ front) e = let above = later front (rest-same e) in omega arith

-- so a fault of a line goes before those of later lines
in-order : (front : List Line) (l : Line) (ts : List (List ℕ)) → ComesFirst IsLineFault LineOrder front l (lines_from (l.number + 1) ts)
in-order front l ts =
    placed-first IsLineFault fault_line rank (λ (x : Line). x.number) fault-at front l (lines_from (l.number + 1) ts)
    (λ before item after there. let above = lines-above ts (l.number + 1) before item after there in omega arith)

-- a fault of the first item is the first fault
stops : (front : List Line) (l : Line) (ts : List (List ℕ)) (e : AdmitRefusal) → IsLineFault front l e → ((other : AdmitRefusal) → IsLineFault front l other → LineOrder e other)
    → IsFirst IsLineFault LineOrder front (l ∷ lines_from (l.number + 1) ts) e
stops front l ts e here least =
    record {
      has = fault-here IsLineFault front l (lines_from (l.number + 1) ts) e here;
      least = λ other h. elim (fault-cases IsLineFault front l (lines_from (l.number + 1) ts) other h) [
        | inl at ↦ least other at
        | inr later ↦ in-order front l ts e other here later
      ];
    }

same-line : (e other : AdmitRefusal) (n : ℕ) → fault_line e ≡ n → fault_line other ≡ n → rank e ≤ rank other → LineOrder e other
same-line e other n a b low = inr (a ∙ sym b, low)

rank-of : (other : AdmitRefusal) (x : AdmitRefusal) → other ≡ x → rank other ≡ rank x
rank-of other x is = ap rank is

-- a line that spells nothing
bad-first : (before : List Line) (l : Line) (other : AdmitRefusal) → IsLineFault before l other → LineOrder (BadLine l.number) other
bad-first before l other h = same-line (BadLine l.number) other l.number refl (fault-at before l other h) (omega arith)

-- a line that goes over, and spells an entry
over-first : (before : List Line) (l : Line) (e : Entry) → IsEntry before l.words e → (other : AdmitRefusal) → IsLineFault before l other → LineOrder (TooMany l.number) other
over-first before l e is other (inl p) = absurd (p.1 e is)
over-first before l e is other (inr p) =
    let same : rank other ≡ 1 = ap rank p.0 in
    same-line (TooMany l.number) other l.number refl (ap fault_line p.0) (omega arith)

no-fault : (before : List Line) (l : Line) (e : Entry) → IsEntry before l.words e → goes_over before l.words ≡ false → (other : AdmitRefusal) → IsLineFault before l other → ⊥
no-fault before l e is within other (inl p) = p.1 e is
no-fault before l e is within other (inr p) = both_ways (goes_over before l.words) within p.1

abbrev line_at : ℕ → List ℕ → Line
line_at n t = record { number = n; words = parts 32 t }

some-none : (e : Entry) → ◌≡◌ {A = Option Entry} None (Some e) → ⊥
some-none e h = cc

abbrev AreOutcomes : List (List ℕ) → ℕ → Type 0
AreOutcomes ts n = (before : List Line) (d : Draft) → Tells before d → IsOutcome IsLineFault LineOrder IsRead before (lines_from n ts) (read_all n d ts)

over-outcome : (t : List ℕ) (ts : List (List ℕ)) (n : ℕ) → AreOutcomes ts (n + 1) → (before : List Line) (d : Draft) → Tells before d → (e : Entry) (over : Bool) → is_over d e ≡ over
    → IsEntry before (parts 32 t) e
    → IsOutcome IsLineFault LineOrder IsRead before (line_at n t ∷ lines_from (n + 1) ts) (cond over (Err (TooMany n)) (read_all (n + 1) (drafted_with d e) ts >>= λ es. Ok (e ∷ es)))
over-outcome t ts n more before d tells e true is entry =
    stops before (line_at n t) ts (TooMany n) (inr (refl, sym (over-same before d (parts 32 t) e tells entry) ∙ is)) (over-first before (line_at n t) e entry)
over-outcome t ts n more before d tells e false is entry =
    let within : goes_over before (parts 32 t) ≡ false = sym (over-same before d (parts 32 t) e tells entry) ∙ is in
    outcome-then IsLineFault LineOrder IsRead before (line_at n t) (lines_from (n + 1) ts) (Ok (e ∷ [])) (read_all (n + 1) (drafted_with d e) ts) (in-order before (line_at n t) ts)
    ((e, refl, entry, within), no-fault before (line_at n t) e entry within)
    (more (before ++ line_at n t ∷ []) (drafted_with d e) (tells-more before d (line_at n t) e tells entry))

entry-outcome : (t : List ℕ) (ts : List (List ℕ)) (n : ℕ) → AreOutcomes ts (n + 1) → (before : List Line) (d : Draft) → Tells before d → (r : Option Entry) → entry_of d t ≡ r
    → IsOutcome IsLineFault LineOrder IsRead before (line_at n t ∷ lines_from (n + 1) ts) (entry_then n d r (λ e. read_all (n + 1) (drafted_with d e) ts))
entry-outcome t ts n more before d tells None is =
    stops before (line_at n t) ts (BadLine n) (inl (refl, λ entry h. some-none entry (sym is ∙ entry-only before d t entry tells h))) (bad-first before (line_at n t))
entry-outcome t ts n more before d tells (Some e) is = over-outcome t ts n more before d tells e (is_over d e) refl (entry-known before d t e tells is)

line-outcome : (t : List ℕ) (ts : List (List ℕ)) (n : ℕ) → AreOutcomes ts (n + 1) → (before : List Line) (d : Draft) → Tells before d → (skip : Bool)
    → IsOutcome IsLineFault LineOrder IsRead before (cond skip (lines_from (n + 1) ts) (line_at n t ∷ lines_from (n + 1) ts))
    (cond skip (read_all (n + 1) d ts) (entry_then n d (entry_of d t) (λ e. read_all (n + 1) (drafted_with d e) ts)))
line-outcome t ts n more before d tells true = more before d tells
line-outcome t ts n more before d tells false = entry-outcome t ts n more before d tells (entry_of d t) refl

-- what reading lines answers is right
read-outcome : (ts : List (List ℕ)) (n : ℕ) (before : List Line) (d : Draft) → Tells before d → IsOutcome IsLineFault LineOrder IsRead before (lines_from n ts) (read_all n d ts)
unfolding read_all
read-outcome [] n before d tells = (refl, λ e h. fault-none IsLineFault before e h)
read-outcome (t ∷ ts) n before d tells = line-outcome t ts n (read-outcome ts (n + 1)) before d tells (is_skipped t)

-- all that is read are the entries of the lines
all-entries : (ls before : List Line) (es : List Entry) → AreAll IsRead before ls es → AreEntries before ls es
all-entries [] before es all = subst (AreEntries before []) (sym all) tt
all-entries (l ∷ ls) before es all =
    let read = all.2 in
    let is : es ≡ read.0 ∷ all.1 = all.4 ∙ ap (λ (found : List Entry). found ++ all.1) read.1 in
    subst (AreEntries before (l ∷ ls)) (sym is) (read.2, read.3, all-entries ls (before ++ l ∷ []) all.1 all.3)

-- the entries of lines are read
entries-read : (ts : List (List ℕ)) (n : ℕ) (before : List Line) (d : Draft) (es : List Entry) → Tells before d → AreEntries before (lines_from n ts) es → read_all n d ts ≡ Ok es
unfolding read_all
entries-read [] n before d [] tells are = refl
entries-read [] n before d (e ∷ es) tells are = absurd are
entries-read (t ∷ ts) n before d es tells are = by_skip (entries-read ts (n + 1)) (is_skipped t) es are
  where
    by_skip : ((front : List Line) (x : Draft) (more : List Entry) → Tells front x → AreEntries front (lines_from (n + 1) ts) more → read_all (n + 1) x ts ≡ Ok more)
        → (skip : Bool) (all : List Entry) → AreEntries before (cond skip (lines_from (n + 1) ts) (line_at n t ∷ lines_from (n + 1) ts)) all
        → cond skip (read_all (n + 1) d ts) (entry_then n d (entry_of d t) (λ e. read_all (n + 1) (drafted_with d e) ts)) ≡ Ok all
    by_skip later true all h = later before d all tells h
    by_skip later false [] h = absurd h
    by_skip later false (e ∷ more) h =
        let found = entry-only before d t e tells h.0 in
        let within : is_over d e ≡ false = over-same before d (parts 32 t) e tells h.0 ∙ h.1 in
        let rest = later (before ++ line_at n t ∷ []) (drafted_with d e) more (tells-more before d (line_at n t) e tells h.0) h.2 in
        rw (found, within, rest) refl

-- the draft that entries make

abbrev drafted_all : Draft → List Entry → Draft
drafted_all d [] = d
drafted_all d (e ∷ es) = drafted_all (drafted_with d e) es

drafted-admission : (es : List Entry) (d : Draft) → (drafted_all d es).admission ≡ with_entries d.admission es
drafted-admission [] d = refl
drafted-admission (e ∷ es) d = drafted-admission es (drafted_with d e)

record Follows (before ls : List Line) (d : Draft) : Type 0 where
  tells : Tells (before ++ ls) d
  formed : IsWellFormed d.admission

follows-all : (ls before : List Line) (d : Draft) (es : List Entry) → Tells before d → IsWellFormed d.admission → AreEntries before ls es → Follows before ls (drafted_all d es)
follows-all [] before d [] tells formed are = record { tells = subst (λ (x : List Line). Tells x d) (sym (append-nil before)) tells; formed = formed }
follows-all [] before d (e ∷ es) tells formed are = absurd are
follows-all (l ∷ ls) before d [] tells formed are = absurd are
follows-all (l ∷ ls) before d (e ∷ es) tells formed are =
    let within : is_over d e ≡ false = over-same before d l.words e tells are.0 ∙ are.1 in
    let rest = follows-all ls (before ++ l ∷ []) (drafted_with d e) es (tells-more before d l e tells are.0) (formed-more before d l.words e tells are.0 within formed) are.2 in
    record { tells = subst (λ (x : List Line). Tells x (drafted_all (drafted_with d e) es)) (append_assoc before (l ∷ []) ls) rest.tells; formed = rest.formed }

-- the code's numbers of lines are cut

abbrev told : Draft → Result (List Entry) AdmitRefusal → Result Draft AdmitRefusal
told d (Ok es) = Ok (drafted_all d es)
told d (Err e) = Err (given e)

told-cons : (d : Draft) (e : Entry) (r : Result (List Entry) AdmitRefusal) → told d (r >>= λ es. Ok (e ∷ es)) ≡ told (drafted_with d e) r
told-cons d e (Ok es) = refl
told-cons d e (Err x) = refl

next-number : (n : ℕ) → next_line (line_number n) ≡ line_number (n + 1)
next-number n = omega arith

abbrev AreTold : List (List ℕ) → ℕ → Type 0
AreTold ts n = (d : Draft) → behind_lines (line_number n) d ts ≡ told d (read_all (n + 1) d ts)

behind-over : (ts : List (List ℕ)) (n : ℕ) (d : Draft) → AreTold ts (n + 1) → (e : Entry) (over : Bool)
    → ((cond over (Err (TooMany (line_number (n + 1)))) (Ok (drafted_with d e))) >>= λ x. behind_lines (line_number (n + 1)) x ts)
    ≡ told d (cond over (Err (TooMany (n + 1))) (read_all (n + 1 + 1) (drafted_with d e) ts >>= λ es. Ok (e ∷ es)))
behind-over ts n d more e true = refl
behind-over ts n d more e false = more (drafted_with d e) ∙ sym (told-cons d e (read_all (n + 1 + 1) (drafted_with d e) ts))

behind-entry : (ts : List (List ℕ)) (n : ℕ) (d : Draft) → AreTold ts (n + 1) → (r : Option Entry)
    → (judged (line_number (n + 1)) d r >>= λ x. behind_lines (line_number (n + 1)) x ts) ≡ told d (entry_then (n + 1) d r (λ e. read_all (n + 1 + 1) (drafted_with d e) ts))
behind-entry ts n d more None = refl
behind-entry ts n d more (Some e) = behind-over ts n d more e (is_over d e)

behind-skip : (t : List ℕ) (ts : List (List ℕ)) (n : ℕ) (d : Draft) → AreTold ts (n + 1) → (skip : Bool)
    → ((cond skip (Ok d) (judged (line_number (n + 1)) d (entry_of d t))) >>= λ x. behind_lines (line_number (n + 1)) x ts)
    ≡ told d (cond skip (read_all (n + 1 + 1) d ts) (entry_then (n + 1) d (entry_of d t) (λ e. read_all (n + 1 + 1) (drafted_with d e) ts)))
behind-skip t ts n d more true = more d
behind-skip t ts n d more false = behind-entry ts n d more (entry_of d t)

behind-all : (ts : List (List ℕ)) (n : ℕ) (d : Draft) → behind_lines (line_number n) d ts ≡ told d (read_all (n + 1) d ts)
unfolding behind_lines behind_line read_all
behind-all [] n d = refl
behind-all (t ∷ ts) n d =
    ap (λ (k : ℕ). behind_line k d t >>= λ e. behind_lines k e ts) (next-number n) ∙ behind-skip t ts n d (behind-all ts (n + 1)) (is_skipped t)

-- the whole

abbrev entries_of : List ℕ → Result (List Entry) AdmitRefusal
entries_of text = read_all 1 no_draft (parts 10 text)

whole : (text : List ℕ) → admission_of text ≡ (told no_draft (entries_of text) >>= finished)
unfolding admission_of
whole text = ap (λ (r : Result Draft AdmitRefusal). r >>= finished) (behind-all (parts 10 text) 0 no_draft)

outcome : (text : List ℕ) → IsOutcome IsLineFault LineOrder IsRead [] (lines_of text) (entries_of text)
outcome text = read-outcome (parts 10 text) 1 [] no_draft tells-none

-- what was answered is right
abbrev pub IsRight : List ℕ → Result Admission AdmitRefusal → Type 0
IsRight text (Ok a) = IsAdmissionText text a × IsWellFormed a
IsRight text (Err e) = IsAdmissionRefusal text e

finish : (text : List ℕ) (es : List Entry) (lived : Bool) → AreEntries [] (lines_of text) es → ((e : AdmitRefusal) → HasFault IsLineFault [] (lines_of text) e → ⊥)
    → (drafted_all no_draft es).lived ≡ lived → IsRight text (cond lived (Ok (drafted_all no_draft es).admission) (Err NoLive))
finish text es true are sound is =
    let f = follows-all (lines_of text) [] no_draft es tells-none formed-none are in
    (record { entries = es; read = are; is_live = sym f.tells.lived ∙ is; means = drafted-admission es no_draft }, f.formed)
finish text es false are sound is =
    let f = follows-all (lines_of text) [] no_draft es tells-none formed-none are in
    Dead sound (sym f.tells.lived ∙ is) refl

right-by : (text : List ℕ) (r : Result (List Entry) AdmitRefusal) → IsOutcome IsLineFault LineOrder IsRead [] (lines_of text) r → IsRight text (told no_draft r >>= finished)
right-by text (Ok es) out = finish text es (drafted_all no_draft es).lived (all-entries (lines_of text) [] es out.0) out.1 refl
right-by text (Err e) out = Faulty e out refl

admission-right : (text : List ℕ) → IsRight text (admission_of text)
admission-right text = subst (IsRight text) (sym (whole text)) (right-by text (entries_of text) (outcome text))

-- an admission that a text spells is what is read of it
admission-only : (text : List ℕ) (a : Admission) → IsAdmissionText text a → admission_of text ≡ Ok a
admission-only text a is =
    let read = entries-read (parts 10 text) 1 [] no_draft is.entries tells-none is.read in
    let f = follows-all (lines_of text) [] no_draft is.entries tells-none formed-none is.read in
    let lived : (drafted_all no_draft is.entries).lived ≡ true = f.tells.lived ∙ is.is_live in
    let means : (drafted_all no_draft is.entries).admission ≡ a = drafted-admission is.entries no_draft ∙ sym is.means in
    whole text ∙ ap (λ (r : Result (List Entry) AdmitRefusal). told no_draft r >>= finished) read
    ∙ ap (λ (t : Bool). cond t (Ok (drafted_all no_draft is.entries).admission) (Err NoLive)) lived ∙ ap (λ (x : Admission). Ok x) means

-- faults of one line and one rank are one

fault-same : (front ls : List Line) (a b : AdmitRefusal) → HasFault IsLineFault front ls a → HasFault IsLineFault front ls b → fault_line a ≡ fault_line b → rank a ≡ rank b → a ≡ b
fault-same front ls a b x y lines ranks = by_cases x.wrong y.wrong
  where
    by_cases : IsLineFault (front ++ x.before) x.item a → IsLineFault (front ++ y.before) y.item b → a ≡ b
    by_cases (inl p) (inl q) = p.0 ∙ ap (λ (n : ℕ). BadLine n) (sym (ap fault_line p.0) ∙ lines ∙ ap fault_line q.0) ∙ sym q.0
    by_cases (inl p) (inr q) = let low : rank a ≡ 0 = ap rank p.0 in let high : rank b ≡ 1 = ap rank q.0 in absurd (omega arith)
    by_cases (inr p) (inl q) = let high : rank a ≡ 1 = ap rank p.0 in let low : rank b ≡ 0 = ap rank q.0 in absurd (omega arith)
    by_cases (inr p) (inr q) = p.0 ∙ ap (λ (n : ℕ). TooMany n) (sym (ap fault_line p.0) ∙ lines ∙ ap fault_line q.0) ∙ sym q.0

-- a refusal of a text is what is answered
refused-by : (text : List ℕ) (e : AdmitRefusal) (r : Result (List Entry) AdmitRefusal) → IsOutcome IsLineFault LineOrder IsRead [] (lines_of text) r → IsAdmissionRefusal text e
    → (told no_draft r >>= finished) ≡ Err e
refused-by text e (Ok es) out (Faulty first is means) = absurd (out.1 first is.has)
refused-by text e (Ok es) out (Dead sound dead means) =
    let are = all-entries (lines_of text) [] es out.0 in
    let f = follows-all (lines_of text) [] no_draft es tells-none formed-none are in
    ap (λ (t : Bool). cond t (Ok (drafted_all no_draft es).admission) (Err NoLive)) (f.tells.lived ∙ dead) ∙ ap (λ (x : AdmitRefusal). Err x) (sym means)
refused-by text e (Err f) out (Faulty first is means) =
    let same = first-alone IsLineFault fault_line rank [] (lines_of text) (fault-same [] (lines_of text)) f first out is in
    ap (λ (x : AdmitRefusal). Err (given x)) same ∙ ap (λ (x : AdmitRefusal). Err x) (sym means)
refused-by text e (Err f) out (Dead sound dead means) = absurd (sound f out.has)

admission-refused : (text : List ℕ) (e : AdmitRefusal) → IsAdmissionRefusal text e → admission_of text ≡ Err e
admission-refused text e refused = whole text ∙ refused-by text e (entries_of text) (outcome text) refused

-- one meaning

-- a text spells an admission, or is refused
pub text-some : (text : List ℕ) → ((a : Admission) × IsAdmissionText text a) ⊎ ((e : AdmitRefusal) × IsAdmissionRefusal text e)
text-some text = by_right (admission_of text) (admission-right text)
  where
    by_right : (r : Result Admission AdmitRefusal) → IsRight text r → ((a : Admission) × IsAdmissionText text a) ⊎ ((e : AdmitRefusal) × IsAdmissionRefusal text e)
    by_right (Ok a) right = inl (a, right.0)
    by_right (Err e) right = inr (e, right)

-- a text spells at most one admission
pub text-once : (text : List ℕ) (a b : Admission) → IsAdmissionText text a → IsAdmissionText text b → a ≡ b
text-once text a b one two = let p = admission-only text a one in let q = admission-only text b two in cc

-- is not refused then
pub text-differs : (text : List ℕ) (a : Admission) (e : AdmitRefusal) → IsAdmissionText text a → IsAdmissionRefusal text e → ⊥
text-differs text a e is refused = let p = admission-only text a is in let q = admission-refused text e refused in cc

-- is refused in at most one way
pub refused-once : (text : List ℕ) (a b : AdmitRefusal) → IsAdmissionRefusal text a → IsAdmissionRefusal text b → a ≡ b
refused-once text a b one two = let p = admission-refused text a one in let q = admission-refused text b two in cc

-- and never because memory was not found
pub refused-found : (text : List ℕ) (e : AdmitRefusal) → IsAdmissionRefusal text e → e ≡ Memory → ⊥
refused-found text e (Faulty first is means) memory = by_fault is.has.wrong
  where
    by_fault : IsLineFault ([] ++ is.has.before) is.has.item first → ⊥
    by_fault (inl p) = let q : e ≡ given (BadLine is.has.item.number) = means ∙ ap given p.0 in cc
    by_fault (inr p) = let q : e ≡ given (TooMany is.has.item.number) = means ∙ ap given p.0 in cc
refused-found text e (Dead sound dead means) memory = cc

-- the answer, where memory may be wanted

-- what is answered is so
pub reads-from : (text : List ℕ) (result : Result Admission AdmitRefusal) → Gives Memory result (admission_of text) → Answers Memory (IsAdmissionText text) (IsAdmissionRefusal text) result
reads-from text (Ok a) gives = (subst (IsRight text) gives (admission-right text)).0
reads-from text (Err e) gives = unless-map (λ (is : admission_of text ≡ Err e). subst (IsRight text) is (admission-right text)) gives

-- what is so is answered
pub admission-gives : (text : List ℕ) (result : Result Admission AdmitRefusal) → Gives Memory result (admission_of text) → (a : Admission) → IsAdmissionText text a → Gives Memory result (Ok a)
admission-gives text result gives a is = subst (Gives Memory result) (admission-only text a is) gives

pub refused-gives : (text : List ℕ) (result : Result Admission AdmitRefusal) → Gives Memory result (admission_of text) → (e : AdmitRefusal) → IsAdmissionRefusal text e → Gives Memory result (Err e)
refused-gives text result gives e is = subst (Gives Memory result) (admission-refused text e is) gives

-- what is read is well formed
pub reads-formed : (text : List ℕ) (result : Result Admission AdmitRefusal) → Gives Memory result (admission_of text) → IfOk result IsWellFormed
reads-formed text (Ok a) gives = (subst (IsRight text) gives (admission-right text)).1
reads-formed text (Err e) gives = tt
