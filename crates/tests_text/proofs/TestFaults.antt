-- What is read of tests is right, and only that is.
use Rattle.std.proofs.Common.{◌≡◌, ℕ, ◌+◌, ◌-◌, ◌^◌, ◌<◌, ◌≤◌, ◌⊎◌, inl, inr, min, Bool, true, false, cond, ltb, List, [], ◌∷◌, ◌++◌, length, Option, Some, None, Result, Ok, Err, codes, refl, sym, ap, ◌∙◌, subst, arith}
use Rattle.std.specs.Str.{is_utf8}
use Rattle.std.proofs.lemmas.Str.{IsUtf8-from_is_utf8, is_utf8-from_IsUtf8}
use Rattle.std.proofs.lemmas.Bool.{ltb-true, ltb-false, lt-ltb, le-ltb, cases_lt, both_ways}
use Rattle.std.proofs.lemmas.Option.{same_Some}
use Rattle.outcomes.specs.Answering.{Answers, Gives}
use Rattle.outcomes.specs.Firsts.{◌>>=◌, HasFault, IsFirst, Precedes}
use Rattle.outcomes.proofs.Answering.{unless-map}
use Rattle.outcomes.proofs.FirstFaults.{AreAll, ComesFirst, IsItem, IsOutcome, fault-none, first-alone, outcome-then, placed-first}
use Rattle.lane_views.specs.declared.Bytes32.{Bytes32}
use Rattle.serde_json.specs.Data.{Data, Items, item, no_items}
use Rattle.serde_json.specs.Find.{as_array, get}
use Rattle.serde_json.specs.Read.{read}
use Rattle.tests_text.specs.declared.refusal.TestRefusal.{TestRefusal}
use Rattle.tests_text.specs.declared.refusal.TestRefusal.TheVariants.{BadShape, Memory, NotJson, TooMany, TooManyBytes}
use Rattle.tests_text.specs.declared.test.Test.{Test}
use Rattle.tests_text.specs.declared.test.Tests.{Tests}
use Rattle.tests_text.specs.Shapes.{IsTest}
use Rattle.tests_text.specs.TestFiles.{all_numbered, AreTests, Faulty, HasTests, IsTestFault, IsJson, IsTestsRefusal, IsTestsText, Many, Numbered, Outer, Unread, fault_number, numbered, rank}
use Rattle.tests_text.specs.Reading.{bytes_of, outer_of, parts_of}
use Rattle.tests_text.specs.ReadingTests.{count_of, file_of, test_by, test_of, test_with, tests_from, tests_in}
use Rattle.tests_text.proofs.PartsOf.{IsParts, outer-known, outer-only, parts-known, parts-only}
use Rattle.tests_text.proofs.TestParts.{memory-known, memory-only, size-known, size-only}

-- one test

abbrev test_with_bytes : List ℕ → List Bytes32 → List (ℕ × ℕ) → Test
test_with_bytes regs vecs bytes = record { regs = regs; vecs = vecs; bytes = bytes }

parts-test : (k : ℕ) (d : Data) (p : List ℕ × List Bytes32 × Items × ℕ) (bytes : List (ℕ × ℕ)) → IsParts k d p → bytes_of p.2 ≡ Some bytes → IsTest k d (test_with_bytes p.0 p.1 bytes)
parts-test k d p bytes is read =
    record { named = is.named; regs = is.regs; vecs = is.vecs; bytes = memory-known (get (codes "mem") d) p.2 bytes is.pieces read }

-- the count, where it is capped, is above 65,536 where the true one is
capped : (size n : ℕ) → size ≡ min (0 + n) (2 ^ 64 - 1) → ltb 65536 size ≡ ltb 65536 n
capped size n is =
    elim (cases_lt 65536 n) [
      | inl above ↦ lt-ltb 65536 size (omega arith) ∙ sym (lt-ltb 65536 n above)
      | inr below ↦ le-ltb 65536 size (omega arith) ∙ sym (le-ltb 65536 n below)
    ]

-- what a test is read as
test-only : (k : ℕ) (d : Data) (t : Test) → IsTest k d t → test_of k d ≡ cond (ltb 65536 (length t.bytes)) (Err (TooManyBytes k)) (Ok t)
unfolding test_of
test-only k d t is =
    let memory = memory-only (get (codes "mem") d) t.bytes is.bytes in
    let size = size-only memory.0 0 t.bytes memory.2 in
    let known = size-known memory.0 0 size.0 (omega arith) size.1 in
    let same : known.0 ≡ t.bytes = same_Some known.0 t.bytes (sym known.1 ∙ memory.2) in
    let parts = parts-only k d memory.0 size.0 t is memory.1 size.1 in
    let over : ltb 65536 size.0 ≡ ltb 65536 (length t.bytes) = capped size.0 (length t.bytes) (known.2 ∙ ap (λ (bs : List (ℕ × ℕ)). min (0 + length bs) (2 ^ 64 - 1)) same) in
    ap (test_by k) parts
    ∙ ap (λ (o : Option (List (ℕ × ℕ))). cond (ltb 65536 size.0) (Err (TooManyBytes k)) (test_with k t.regs t.vecs o)) memory.2
    ∙ ap (λ (b : Bool). cond b (Err (TooManyBytes k)) (Ok t)) over

-- what was answered of a test is right
abbrev IsTestRight : ℕ → Data → Result Test TestRefusal → Type 0
IsTestRight k d (Ok t) = IsTest k d t × (length t.bytes ≤ 65536)
IsTestRight k d (Err e) = IsTestFault [] (record { value = d; number = k }) e

none-some : {A : Type 0} (x : A) → ◌≡◌ {A = Option A} None (Some x) → ⊥
none-some x h = cc

sized : (k : ℕ) (d : Data) (p : List ℕ × List Bytes32 × Items × ℕ) (bytes : List (ℕ × ℕ)) (over : Bool) → IsParts k d p → bytes_of p.2 ≡ Some bytes
    → p.3 ≡ min (0 + length bytes) (2 ^ 64 - 1) → ltb 65536 p.3 ≡ over → IsTestRight k d (cond over (Err (TooManyBytes k)) (test_with k p.0 p.1 (bytes_of p.2)))
sized k d p bytes true is read size over =
    inr (refl, (test_with_bytes p.0 p.1 bytes, parts-test k d p bytes is read, ltb-true 65536 (length bytes) (sym (capped p.3 (length bytes) size) ∙ over)))
sized k d p bytes false is read size over =
    subst (λ (o : Option (List (ℕ × ℕ))). IsTestRight k d (test_with k p.0 p.1 o)) (sym read)
    (parts-test k d p bytes is read, ltb-false 65536 (length bytes) (sym (capped p.3 (length bytes) size) ∙ over))

test-by : (k : ℕ) (d : Data) (r : Option (List ℕ × List Bytes32 × Items × ℕ)) → parts_of k d ≡ r → IsTestRight k d (test_by k r)
test-by k d None is =
    inl (
      refl,
      λ t test.
          let memory = memory-only (get (codes "mem") d) t.bytes test.bytes in
          let size = size-only memory.0 0 t.bytes memory.2 in
          none-some (t.regs, t.vecs, memory.0, size.0) (sym is ∙ parts-only k d memory.0 size.0 t test memory.1 size.1),
    )
test-by k d (Some p) is =
    let parts = parts-known k d p is in
    let known = size-known p.2 0 p.3 (omega arith) parts.size in
    sized k d p known.0 (ltb 65536 p.3) parts known.1 known.2 refl

test-right : (k : ℕ) (d : Data) → IsTestRight k d (test_of k d)
unfolding test_of
test-right k d = test-by k d (parts_of k d) refl

-- tests in their order

abbrev TestOrder : TestRefusal → TestRefusal → Type 0
TestOrder e other = Precedes fault_number rank e other

abbrev IsRead : List Numbered → Numbered → List Test → Type 0
IsRead before d found = (t : Test) × (found ≡ t ∷ []) × IsTest d.number d.value t × (length t.bytes ≤ 65536)

abbrev one_of : Result Test TestRefusal → Result (List Test) TestRefusal
one_of (Ok t) = Ok (t ∷ [])
one_of (Err e) = Err e

fault-at : (before : List Numbered) (d : Numbered) (e : TestRefusal) → IsTestFault before d e → fault_number e ≡ d.number
fault-at before d e (inl p) = ap fault_number p.0
fault-at before d e (inr p) = ap fault_number p.0

no-fault : (before : List Numbered) (d : Numbered) (t : Test) → IsTest d.number d.value t → length t.bytes ≤ 65536 → (e : TestRefusal) → IsTestFault before d e → ⊥
no-fault before d t is few e (inl p) = p.1 t is
no-fault before d t is few e (inr p) =
    let mine = test-only d.number d.value t is in
    let other = test-only d.number d.value p.1.0 p.1.1 in
    let low : ltb 65536 (length t.bytes) ≡ false = le-ltb 65536 (length t.bytes) few in
    let high : ltb 65536 (length p.1.0.bytes) ≡ true = lt-ltb 65536 (length p.1.0.bytes) p.1.2 in
    let a : test_of d.number d.value ≡ Ok t = mine ∙ ap (λ (b : Bool). cond b (Err (TooManyBytes d.number)) (Ok t)) low in
    let b : test_of d.number d.value ≡ Err (TooManyBytes d.number) = other ∙ ap (λ (c : Bool). cond c (Err (TooManyBytes d.number)) (Ok p.1.0)) high in
    ok-err t (TooManyBytes d.number) (sym a ∙ b)
  where
    ok-err : (x : Test) (y : TestRefusal) → ◌≡◌ {A = Result Test TestRefusal} (Ok x) (Err y) → ⊥
    ok-err x y h = cc

same-test : (before : List Numbered) (d : Numbered) (e other : TestRefusal) → IsTestFault [] d e → IsTestFault before d other → TestOrder e other
same-test before d e other (inl p) h =
    let low : rank e ≡ 0 = ap rank p.0 in
    inr (ap fault_number p.0 ∙ sym (fault-at before d other h), omega arith)
same-test before d e other (inr p) (inl q) = absurd (q.1 p.1.0 p.1.1)
same-test before d e other (inr p) (inr q) =
    let mine : rank e ≡ 1 = ap rank p.0 in
    let its : rank other ≡ 1 = ap rank q.0 in
    inr (ap fault_number p.0 ∙ sym (ap fault_number q.0), omega arith)

item-by : (before : List Numbered) (d : Numbered) (r : Result Test TestRefusal) → IsTestRight d.number d.value r → IsItem IsTestFault TestOrder IsRead before d (one_of r)
item-by before d (Ok t) right = ((t, refl, right.0, right.1), no-fault before d t right.0 right.1)
item-by before d (Err e) right = (right, λ other h. same-test before d e other right h)

numbered-above : (ds : Items) (k : ℕ) (before : List Numbered) (d : Numbered) (after : List Numbered) → numbered k ds ≡ before ++ d ∷ after → k ≤ d.number
numbered-above no_items k [] d after is = absurd (cc)
numbered-above no_items k (b ∷ before) d after is = absurd (cc)
numbered-above (item x ds) k [] d after is = let same : k ≡ d.number = ap (λ (y : Numbered). y.number) (first-of is) in omega arith
  where
    first-of : {X : Type 0} {x y : X} {xs ys : List X} → x ∷ xs ≡ y ∷ ys → x ≡ y
    first-of e = cc
numbered-above (item x ds) k (b ∷ before) d after is = let above = numbered-above ds (k + 1) before d after (rest-of is) in omega arith
  where
    rest-of : {X : Type 0} {x y : X} {xs ys : List X} → x ∷ xs ≡ y ∷ ys → xs ≡ ys
    rest-of e = cc

in-order : (before : List Numbered) (d : Numbered) (ds : Items) → ComesFirst IsTestFault TestOrder before d (numbered (d.number + 1) ds)
in-order before d ds =
    placed-first IsTestFault fault_number rank (λ (x : Numbered). x.number) fault-at before d (numbered (d.number + 1) ds)
    (λ front x after there. let above = numbered-above ds (d.number + 1) front x after there in omega arith)

tests-same : (k : ℕ) (ds : Items) (r : Result Test TestRefusal) → (r >>= λ t. (tests_from (k + 1) ds >>= λ ts. Ok (t ∷ ts))) ≡ (one_of r >>= λ found. (tests_from (k + 1) ds >>= λ ts. Ok (found ++ ts)))
tests-same k ds (Ok t) = refl
tests-same k ds (Err e) = refl

tests-outcome : (ds : Items) (k : ℕ) (before : List Numbered) → IsOutcome IsTestFault TestOrder IsRead before (numbered k ds) (tests_from k ds)
unfolding tests_from
tests-outcome no_items k before = (refl, λ e h. fault-none IsTestFault before e h)
tests-outcome (item d ds) k before =
    let here : Numbered = record { value = d; number = k } in
    subst (λ (r : Result (List Test) TestRefusal). IsOutcome IsTestFault TestOrder IsRead before (here ∷ numbered (k + 1) ds) r) (sym (tests-same k ds (test_of k d)))
    (outcome-then IsTestFault TestOrder IsRead before here (numbered (k + 1) ds) (one_of (test_of k d)) (tests_from (k + 1) ds) (in-order before here ds)
    (item-by before here (test_of k d) (test-right k d)) (tests-outcome ds (k + 1) (before ++ here ∷ [])))

all-tests : (ds before : List Numbered) (ts : List Test) → AreAll IsRead before ds ts → AreTests ds ts
all-tests [] before ts all = subst (AreTests []) (sym all) tt
all-tests (d ∷ ds) before ts all =
    let test = all.2 in
    let is : ts ≡ test.0 ∷ all.1 = all.4 ∙ ap (λ (found : List Test). found ++ all.1) test.1 in
    subst (AreTests (d ∷ ds)) (sym is) (test.2, test.3, all-tests ds (before ++ d ∷ []) all.1 all.3)

tests-read : (ds : Items) (k : ℕ) (ts : List Test) → AreTests (numbered k ds) ts → tests_from k ds ≡ Ok ts
unfolding tests_from
tests-read no_items k [] are = refl
tests-read no_items k (t ∷ ts) are = absurd are
tests-read (item d ds) k [] are = absurd are
tests-read (item d ds) k (t ∷ ts) are =
    let few : ltb 65536 (length t.bytes) ≡ false = le-ltb 65536 (length t.bytes) are.1 in
    let here : test_of k d ≡ Ok t = test-only k d t are.0 ∙ ap (λ (b : Bool). cond b (Err (TooManyBytes k)) (Ok t)) few in
    let rest = tests-read ds (k + 1) ts are.2 in
    rw (here, rest) refl

count-is : (ds : Items) (k : ℕ) → count_of ds ≡ length (numbered k ds)
count-is no_items k = refl
count-is (item d ds) k = let e = count-is ds (k + 1) in omega arith

-- faults of one test and one rank are one

fault-same : (front ds : List Numbered) (a b : TestRefusal) → HasFault IsTestFault front ds a → HasFault IsTestFault front ds b → fault_number a ≡ fault_number b → rank a ≡ rank b
    → a ≡ b
fault-same front ds a b x y numbers ranks = by_cases x.wrong y.wrong
  where
    by_cases : IsTestFault (front ++ x.before) x.item a → IsTestFault (front ++ y.before) y.item b → a ≡ b
    by_cases (inl p) (inl q) = p.0 ∙ ap (λ (n : ℕ). BadShape n) (sym (ap fault_number p.0) ∙ numbers ∙ ap fault_number q.0) ∙ sym q.0
    by_cases (inl p) (inr q) = let low : rank a ≡ 0 = ap rank p.0 in let high : rank b ≡ 1 = ap rank q.0 in absurd (omega arith)
    by_cases (inr p) (inl q) = let high : rank a ≡ 1 = ap rank p.0 in let low : rank b ≡ 0 = ap rank q.0 in absurd (omega arith)
    by_cases (inr p) (inr q) = p.0 ∙ ap (λ (n : ℕ). TooManyBytes n) (sym (ap fault_number p.0) ∙ numbers ∙ ap fault_number q.0) ∙ sym q.0

-- a whole value

-- what was answered of a value is right
abbrev pub IsFileRight : Data → Result Tests TestRefusal → Type 0
IsFileRight d (Ok tests) = (ds : Items) × HasTests d ds × (length (all_numbered ds) ≤ 64) × AreTests (all_numbered ds) tests.tests
IsFileRight d (Err e) =
    (((ds : Items) → HasTests d ds → ⊥) × (e ≡ BadShape 0))
    ⊎ (((ds : Items) × HasTests d ds × (64 < length (all_numbered ds)) × (e ≡ TooMany))
    ⊎ ((ds : Items) × HasTests d ds × (length (all_numbered ds) ≤ 64) × IsFirst IsTestFault TestOrder [] (all_numbered ds) e))

abbrev with_tests : List Test → Tests
with_tests ts = record { tests = ts }

listed : (d : Data) (ds : Items) (r : Result (List Test) TestRefusal) → HasTests d ds → length (all_numbered ds) ≤ 64 → IsOutcome IsTestFault TestOrder IsRead [] (all_numbered ds) r
    → IsFileRight d (r >>= λ ts. Ok (with_tests ts))
listed d ds (Ok ts) has few out = (ds, has, few, all-tests (all_numbered ds) [] ts out.0)
listed d ds (Err e) has few out = inr (inr (ds, has, few, out))

file-by : (d : Data) (r : Option Items) → outer_of d ≡ r → IsFileRight d (tests_in r)
file-by d None is = inl (λ ds has. none-some ds (sym is ∙ outer-only d ds has), refl)
file-by d (Some ds) is =
    elim (ltb 64 (count_of ds)) as (λ (t : Bool). ltb 64 (count_of ds) ≡ t → IsFileRight d (cond t (Err TooMany) (tests_from 1 ds >>= λ ts. Ok (with_tests ts)))) [
      | true ↦ λ e. inr (inl (ds, outer-known d ds is, many-of ds (ltb-true 64 (count_of ds) e), refl))
      | false ↦ λ e. listed d ds (tests_from 1 ds) (outer-known d ds is) (few-of ds (ltb-false 64 (count_of ds) e)) (tests-outcome ds 1 [])
    ] refl
  where
    many-of : (xs : Items) → 64 < count_of xs → 64 < length (all_numbered xs)
    many-of xs h = omega (arith, count-is xs 1)

    few-of : (xs : Items) → count_of xs ≤ 64 → length (all_numbered xs) ≤ 64
    few-of xs h = omega (arith, count-is xs 1)

file-right : (d : Data) → IsFileRight d (file_of d)
unfolding file_of
file-right d = file-by d (outer_of d) refl

file-only : (d : Data) (ds : Items) (ts : List Test) → HasTests d ds → length (all_numbered ds) ≤ 64 → AreTests (all_numbered ds) ts → file_of d ≡ Ok (with_tests ts)
unfolding file_of
file-only d ds ts has few are =
    let outer = outer-only d ds has in
    let low : ltb 64 (count_of ds) ≡ false = le-ltb 64 (count_of ds) (omega (arith, count-is ds 1)) in
    let read = tests-read ds 1 ts are in
    ap tests_in outer ∙ ap (λ (t : Bool). cond t (Err TooMany) (tests_from 1 ds >>= λ xs. Ok (with_tests xs))) low ∙ ap (λ (r : Result (List Test) TestRefusal). r >>= λ xs. Ok (with_tests xs)) read

-- a whole text

json-once : (text : List ℕ) (c d : Data) → IsJson text c → IsJson text d → c ≡ d
json-once text c d a b = same_Some c d (sym a.value ∙ b.value)

tests-once : (d : Data) (ds es : Items) → HasTests d ds → HasTests d es → ds ≡ es
tests-once d ds es a b = same_Some ds es (ap (λ (o : Option Data). option_of o) (sym a.tests ∙ b.tests))
  where
    option_of : Option Data → Option Items
    option_of None = None
    option_of (Some x) = as_array x

refusal-by : (text : List ℕ) (d : Data) (e : TestRefusal) → IsJson text d → IsFileRight d (Err e) → IsTestsRefusal text e
refusal-by text d e json (inl p) = Outer d json p.0 p.1
refusal-by text d e json (inr (inl p)) = Many d json p.0 p.1 p.2 p.3
refusal-by text d e json (inr (inr p)) = Faulty d json p.0 p.1 p.2 p.3

-- what is answered of a text with a value is so
pub value-reads : (text : List ℕ) (d : Data) (result : Result Tests TestRefusal) → IsJson text d → Gives Memory result (file_of d) → Answers Memory (IsTestsText text) (IsTestsRefusal text) result
value-reads text d (Ok tests) json gives =
    let right = subst (IsFileRight d) gives (file-right d) in
    record { value = d; json = json; items = right.0; has = right.1; few = right.2; each = right.3 }
value-reads text d (Err e) json gives = unless-map (λ (is : file_of d ≡ Err e). refusal-by text d e json (subst (IsFileRight d) is (file-right d))) gives

-- a text that spells tests has a value of which they are read
text-read : (text : List ℕ) (d : Data) (tests : Tests) → IsJson text d → IsTestsText text tests → file_of d ≡ Ok tests
text-read text d tests json is =
    let same : is.value ≡ d = json-once text is.value d is.json json in
    let read : file_of is.value ≡ Ok (with_tests tests.tests) = file-only is.value is.items tests.tests is.has is.few is.each in
    ap file_of (sym same) ∙ read

pub value-gives : (text : List ℕ) (d : Data) (result : Result Tests TestRefusal) → IsJson text d → Gives Memory result (file_of d) → (tests : Tests) → IsTestsText text tests
    → Gives Memory result (Ok tests)
value-gives text d result json gives tests is = subst (Gives Memory result) (text-read text d tests json is) gives

none-in : (d : Data) (r : Option Items) → outer_of d ≡ r → ((ds : Items) → HasTests d ds → ⊥) → tests_in r ≡ Err (BadShape 0)
none-in d None is none = refl
none-in d (Some ds) is none = absurd (none ds (outer-known d ds is))

many-in : (ds : Items) → 64 < length (all_numbered ds) → tests_in (Some ds) ≡ Err TooMany
many-in ds many =
    let high : ltb 64 (count_of ds) ≡ true = lt-ltb 64 (count_of ds) (omega (arith, count-is ds 1)) in
    ap (λ (t : Bool). cond t (Err TooMany) (tests_from 1 ds >>= λ xs. Ok (with_tests xs))) high

first-in : (ds : Items) (e : TestRefusal) (r : Result (List Test) TestRefusal) → IsOutcome IsTestFault TestOrder IsRead [] (all_numbered ds) r
    → IsFirst IsTestFault TestOrder [] (all_numbered ds) e → (r >>= λ xs. Ok (with_tests xs)) ≡ Err e
first-in ds e (Ok ts) out first = absurd (out.1 e first.has)
first-in ds e (Err f) out first = ap (λ (x : TestRefusal). Err x) (first-alone IsTestFault fault_number rank [] (all_numbered ds) (fault-same [] (all_numbered ds)) f e out first)

faulty-in : (ds : Items) (e : TestRefusal) → length (all_numbered ds) ≤ 64 → IsFirst IsTestFault TestOrder [] (all_numbered ds) e → tests_in (Some ds) ≡ Err e
faulty-in ds e few first =
    let low : ltb 64 (count_of ds) ≡ false = le-ltb 64 (count_of ds) (omega (arith, count-is ds 1)) in
    ap (λ (t : Bool). cond t (Err TooMany) (tests_from 1 ds >>= λ xs. Ok (with_tests xs))) low ∙ first-in ds e (tests_from 1 ds) (tests-outcome ds 1 []) first

file-refused : (text : List ℕ) (d : Data) (e : TestRefusal) → IsJson text d → IsTestsRefusal text e → file_of d ≡ Err e
unfolding file_of
file-refused text d e json (Unread none is) = absurd (none d json)
file-refused text d e json (Outer c known none is) =
    let same = json-once text c d known json in
    none-in d (outer_of d) refl (subst (λ (x : Data). (ds : Items) → HasTests x ds → ⊥) same none) ∙ ap (λ (x : TestRefusal). Err x) (sym is)
file-refused text d e json (Many c known ds has many is) =
    let outer = outer-only d ds (subst (λ (x : Data). HasTests x ds) (json-once text c d known json) has) in
    ap tests_in outer ∙ many-in ds many ∙ ap (λ (x : TestRefusal). Err x) (sym is)
file-refused text d e json (Faulty c known ds has few first) =
    let outer = outer-only d ds (subst (λ (x : Data). HasTests x ds) (json-once text c d known json) has) in
    ap tests_in outer ∙ faulty-in ds e few first

pub value-refused : (text : List ℕ) (d : Data) (result : Result Tests TestRefusal) → IsJson text d → Gives Memory result (file_of d) → (e : TestRefusal) → IsTestsRefusal text e
    → Gives Memory result (Err e)
value-refused text d result json gives e refused = subst (Gives Memory result) (file-refused text d e json refused) gives

-- a text without a value

unread-only : (text : List ℕ) → ((d : Data) → IsJson text d → ⊥) → (e : TestRefusal) → IsTestsRefusal text e → e ≡ NotJson
unread-only text none e (Unread alike is) = is
unread-only text none e (Outer c known without is) = absurd (none c known)
unread-only text none e (Many c known ds has many is) = absurd (none c known)
unread-only text none e (Faulty c known ds has few first) = absurd (none c known)

pub unread-reads : (text : List ℕ) → ((d : Data) → IsJson text d → ⊥) → Answers {A = Tests} Memory (IsTestsText text) (IsTestsRefusal text) (Err NotJson)
unread-reads text none = inr (Unread none refl)

pub unread-gives : (text : List ℕ) → ((d : Data) → IsJson text d → ⊥) → (tests : Tests) → IsTestsText text tests → Gives {A = Tests} Memory (Err NotJson) (Ok tests)
unread-gives text none tests is = absurd (none is.value is.json)

pub unread-refused : (text : List ℕ) → ((d : Data) → IsJson text d → ⊥) → (e : TestRefusal) → IsTestsRefusal text e → Gives {A = Tests} Memory (Err NotJson) (Err e)
unread-refused text none e refused = inr (ap (λ (x : TestRefusal). Err x) (unread-only text none e refused))

-- one meaning

-- a text spells tests, or is refused
pub text-some : (text : List ℕ) → ((tests : Tests) × IsTestsText text tests) ⊎ ((e : TestRefusal) × IsTestsRefusal text e)
text-some text = by_json (is_utf8 text) (read text) refl refl
  where
    by_file : (d : Data) → IsJson text d → (r : Result Tests TestRefusal) → IsFileRight d r → ((tests : Tests) × IsTestsText text tests) ⊎ ((e : TestRefusal) × IsTestsRefusal text e)
    by_file d json (Ok tests) right = inl (tests, record { value = d; json = json; items = right.0; has = right.1; few = right.2; each = right.3 })
    by_file d json (Err e) right = inr (e, refusal-by text d e json right)

    by_json : (valid : Bool) (found : Option Data) → is_utf8 text ≡ valid → read text ≡ found → ((tests : Tests) × IsTestsText text tests) ⊎ ((e : TestRefusal) × IsTestsRefusal text e)
    by_json false found bad is = inr (NotJson, Unread (λ d json. both_ways (is_utf8 text) bad (is_utf8-from_IsUtf8 text json.utf8)) refl)
    by_json true None good is = inr (NotJson, Unread (λ d json. none-some d (sym is ∙ json.value)) refl)
    by_json true (Some d) good is = by_file d (record { utf8 = IsUtf8-from_is_utf8 text good; value = is }) (file_of d) (file-right d)

-- a text spells one list of tests at most
pub text-once : (text : List ℕ) (a b : Tests) → IsTestsText text a → IsTestsText text b → a ≡ b
text-once text a b one two = let p = text-read text one.value a one.json one in let q = text-read text one.value b one.json two in cc

-- is not refused then
pub text-differs : (text : List ℕ) (tests : Tests) (e : TestRefusal) → IsTestsText text tests → IsTestsRefusal text e → ⊥
text-differs text tests e is refused = let p = text-read text is.value tests is.json is in let q = file-refused text is.value e is.json refused in cc

one_refusal : (text : List ℕ) (d : Data) (a b : TestRefusal) → IsJson text d → IsTestsRefusal text a → IsTestsRefusal text b → a ≡ b
one_refusal text d a b json one two = let p = file-refused text d a json one in let q = file-refused text d b json two in cc

-- is refused in at most one way
pub refused-once : (text : List ℕ) (a b : TestRefusal) → IsTestsRefusal text a → IsTestsRefusal text b → a ≡ b
refused-once text a b (Unread none is) other = is ∙ sym (unread-only text none b other)
refused-once text a b (Outer d json none is) other = one_refusal text d a b json (Outer d json none is) other
refused-once text a b (Many d json ds has many is) other = one_refusal text d a b json (Many d json ds has many is) other
refused-once text a b (Faulty d json ds has few first) other = one_refusal text d a b json (Faulty d json ds has few first) other

-- and never because memory was not found
pub refused-found : (text : List ℕ) (e : TestRefusal) → IsTestsRefusal text e → e ≡ Memory → ⊥
refused-found text e (Unread none is) memory = cc
refused-found text e (Outer d json none is) memory = cc
refused-found text e (Many d json ds has many is) memory = cc
refused-found text e (Faulty d json ds has few first) memory = by_fault first.has.wrong
  where
    by_fault : IsTestFault ([] ++ first.has.before) first.has.item e → ⊥
    by_fault (inl p) = let q : e ≡ BadShape first.has.item.number = p.0 in cc
    by_fault (inr p) = let q : e ≡ TooManyBytes first.has.item.number = p.0 in cc
