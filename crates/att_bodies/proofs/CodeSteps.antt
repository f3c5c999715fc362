-- Single turns of the code on bodies and their labels.
use Rattle.std.proofs.Common.{◌≡◌, ℕ, zero, suc, ◌+◌, ◌-◌, ◌^◌, ◌<◌, ◌≤◌, min, Bool, true, false, cond, ltb, eqb, ◌||◌, List, [], ◌∷◌, ◌++◌, length, take, drop, map, Option, Some, None, refl, sym, ap, ◌∙◌, inl, inr, Bor, get_or, drop-cons, add-one, length-append, arith}
use Rattle.std.specs.List.{list_any, count_by}
use Rattle.std.specs.Option.{option_or}
use Rattle.std.proofs.lemmas.Option.{same_Some}
use Rattle.std.specs.Str.{bytes_eq}
use Rattle.std.specs.Map.{lookup}
use Rattle.std.specs.Ordering.{nat_cmp, is_eq, match_ordering}
use Rattle.std.specs.declared.cmp.Ordering.{Ordering}
use Rattle.std.specs.declared.cmp.Ordering.TheVariants.{Less, Equal, Greater}
use Rattle.std.specs.BTreeMap.{insert_entry}
use Rattle.std.specs.Cmp.{both_ways as same_tests}
use Rattle.std.specs.Cmp.Lexicographic.{slice_cmp}
use Rattle.std.proofs.lemmas.Bool.{both_ways, cases_lt, lt-ltb, le-ltb}
use Rattle.std.proofs.Math.ListN.{drop_of_length-le}
use Rattle.std.proofs.lemmas.List.{length-map, take-map, drop-map}
use Rattle.std.proofs.lemmas.Map.Text.{is_eq-slice_cmp}
use Rattle.std.proofs.lemmas.Slice.Eq.{bytes_eq-Decides}
use Rattle.text_lines.specs.Lines.{Item, Label, Statement}
use Rattle.text_lines.specs.Views.{seen}
use Rattle.text_lines.specs.declared.items.Item.{Item as KeptItem}
use Rattle.att_bodies.specs.declared.labels.First.{First}
use Rattle.att_bodies.specs.Body.{is_label, is_code}
use Rattle.att_bodies.specs.Reading.{count_of, inside_of, behind_body, body_split, target_from, target_of}
use Rattle.att_bodies.specs.Functions.{line_of, last_line}
use Rattle.att_bodies.specs.Firsts.{AreDistinct, first_from, target_by}
use Rattle.att_bodies.proofs.Counts.{count-cons, any-counted, count_by-none}
use Rattle.att_bodies.proofs.Extents.{inside-known}

-- bodies

take_front : {X : Type 0} (xs ys : List X) (n : ℕ) → n ≡ length xs → take n (xs ++ ys) ≡ xs
take_front [] ys n is = rw is refl
take_front {X = X} (x ∷ xs) ys zero is = absurd (omega arith)
take_front {X = X} (x ∷ xs) ys (suc n) is = ap (λ (z : List X). x ∷ z) (take_front xs ys n (omega arith))

behind_shorter : (name : List ℕ) (rest behind : List KeptItem) → map seen behind ≡ behind_body name (map seen rest)
    → length rest ≡ length (inside_of name (map seen rest)) + length behind
behind_shorter name rest behind is =
    let whole : length (map seen rest) ≡ length (inside_of name (map seen rest) ++ behind_body name (map seen rest)) = ap length (inside-known name (map seen rest)).0 in
    let same : length (map seen behind) ≡ length (behind_body name (map seen rest)) = ap length is in
    omega (arith, length-map rest seen, length-map behind seen, length-append (inside_of name (map seen rest)) (behind_body name (map seen rest)))

-- what stands behind a body is shorter than the items from its label on
pub split-within : (name : List ℕ) (items : List KeptItem) (item : KeptItem) (rest behind : List KeptItem) → items ≡ item ∷ rest → map seen behind ≡ behind_body name (map seen rest)
    → length behind ≤ length items
split-within name items item rest behind first is =
    let long : length items ≡ length (item ∷ rest) = ap length first in omega (arith, behind_shorter name rest behind is)

-- a body is cut off where what stands behind it begins
pub split-body : (name : List ℕ) (items : List KeptItem) (item : KeptItem) (rest behind : List KeptItem) → items ≡ item ∷ rest → map seen behind ≡ behind_body name (map seen rest)
    → (map seen (take (length items - length behind) items), map seen behind) ≡ body_split name (map seen items)
split-body name items item rest behind first is =
    let inside = inside_of name (map seen rest) in
    let long : length items ≡ length (item ∷ rest) = ap length first in
    let place : length items - length behind ≡ length (seen item ∷ inside) = omega (arith, behind_shorter name rest behind is) in
    let whole : map seen items ≡ (seen item ∷ inside) ++ behind_body name (map seen rest) =
    ap (map seen) first ∙ ap (λ (x : List Item). seen item ∷ x) (inside-known name (map seen rest)).0 in
    let body : map seen (take (length items - length behind) items) ≡ seen item ∷ inside =
    sym (take-map seen (length items - length behind) items) ∙ ap (take (length items - length behind)) whole
    ∙ take_front (seen item ∷ inside) (behind_body name (map seen rest)) (length items - length behind) place in
    ap (λ (x : List Item). (x, map seen behind)) body ∙ ap (λ (x : List Item). (seen item ∷ inside, x)) is
    ∙ ap (body_split name) (sym (ap (map seen) first))

-- the map of first labels

abbrev found : List ℕ → List (Bor (List ℕ) × First) → Option First
found name es = lookup (λ key. is_eq (slice_cmp nat_cmp name key.now)) es

-- keys that are compared as equal are so, and others are not
compared : (a b : List ℕ) (o : Ordering) → slice_cmp nat_cmp a b ≡ o → bytes_eq a b ≡ is_eq o
compared a b o is = sym (is_eq-slice_cmp a b) ∙ ap is_eq is

by_name : (name : List ℕ) (e : Bor (List ℕ) × First) (es : List (Bor (List ℕ) × First)) → found name (e ∷ es) ≡ cond (bytes_eq name e.0.now) (Some e.1) (found name es)
by_name name e es = ap (λ t. cond t (Some e.1) (found name es)) (is_eq-slice_cmp name e.0.now)

later_entry : (s t : Bool) (v w : First) (o : Option First) → (s ≡ true → t ≡ true → ⊥) → cond {A = Option First} t (Some w) (cond s (Some v) o) ≡ cond s (Some v) (cond t (Some w) o)
later_entry true true v w o apart = absurd (apart refl refl)
later_entry true false v w o apart = refl
later_entry false t v w o apart = refl

other_value : (s t : Bool) (v w : First) (o : Option First) → s ≡ t → cond {A = Option First} t (Some v) o ≡ cond s (Some v) (cond t (Some w) o)
other_value true true v w o same = refl
other_value false false v w o same = refl
other_value true false v w o same = cc
other_value false true v w o same = cc

same_names : (name a b : List ℕ) → bytes_eq a b ≡ true → bytes_eq name a ≡ bytes_eq name b
same_names name a b e = ap (bytes_eq name) ((bytes_eq-Decides a b).0 e)

apart_names : (name a b : List ℕ) → bytes_eq a b ≡ false → bytes_eq name a ≡ true → bytes_eq name b ≡ true → ⊥
apart_names name a b e one two =
    let x : name ≡ a = (bytes_eq-Decides name a).0 one in
    let y : name ≡ b = (bytes_eq-Decides name b).0 two in
    both_ways (bytes_eq a b) e ((bytes_eq-Decides a b).1 (sym x ∙ y))

insert_by : (name : List ℕ) (e : Bor (List ℕ) × First) (es : List (Bor (List ℕ) × First)) (k : Bor (List ℕ)) (v : First) (o : Ordering) → slice_cmp nat_cmp k.now e.0.now ≡ o
    → found name (insert_entry (λ x y. slice_cmp nat_cmp x.now y.now) es k v) ≡ cond (bytes_eq name k.now) (Some v) (found name es)
    → found name (match_ordering o ((k, v) ∷ e ∷ es) ((e.0, v) ∷ es) (e ∷ insert_entry (λ x y. slice_cmp nat_cmp x.now y.now) es k v))
    ≡ cond (bytes_eq name k.now) (Some v) (found name (e ∷ es))
insert_by name e es k v Less is later = by_name name (k, v) (e ∷ es)
insert_by name e es k v Equal is later =
    by_name name (e.0, v) es
    ∙ other_value (bytes_eq name k.now) (bytes_eq name e.0.now) v e.1 (found name es) (same_names name k.now e.0.now (compared k.now e.0.now Equal is))
    ∙ ap (λ x. cond (bytes_eq name k.now) (Some v) x) (sym (by_name name e es))
insert_by name e es k v Greater is later =
    by_name name e (insert_entry (λ x y. slice_cmp nat_cmp x.now y.now) es k v)
    ∙ ap (λ x. cond (bytes_eq name e.0.now) (Some e.1) x) later
    ∙ later_entry (bytes_eq name k.now) (bytes_eq name e.0.now) v e.1 (found name es) (apart_names name k.now e.0.now (compared k.now e.0.now Greater is))
    ∙ ap (λ x. cond (bytes_eq name k.now) (Some v) x) (sym (by_name name e es))

-- a new entry in a map by names
insert-lookup : (name : List ℕ) (es : List (Bor (List ℕ) × First)) (k : Bor (List ℕ)) (v : First)
    → lookup (λ key. is_eq (slice_cmp nat_cmp name key.now)) (insert_entry (λ x y. slice_cmp nat_cmp x.now y.now) es k v)
    ≡ cond (bytes_eq name k.now) (Some v) (lookup (λ key. is_eq (slice_cmp nat_cmp name key.now)) es)
insert-lookup name [] k v = ap (λ t. cond t (Some v) None) (is_eq-slice_cmp name k.now)
insert-lookup name (e ∷ es) k v =
    insert_by name e es k v (slice_cmp nat_cmp k.now e.0.now) refl (insert-lookup name es k v)

absent_first : (s : Bool) (o : Option First) (v : First) → (s ≡ true → o ≡ None) → cond {A = Option First} s (Some v) o ≡ option_or o (cond s (Some v) None)
absent_first true None v absent = refl
absent_first true (Some w) v absent = let e = absent refl in cc
absent_first false None v absent = refl
absent_first false (Some w) v absent = refl

or_none : (o : Option First) → option_or o None ≡ o
or_none None = refl
or_none (Some v) = refl

bytes_eq-sym : (a b : List ℕ) → bytes_eq a b ≡ bytes_eq b a
bytes_eq-sym a b =
    same_tests (bytes_eq a b) (bytes_eq b a) (λ e. (bytes_eq-Decides b a).1 (sym ((bytes_eq-Decides a b).0 e)))
    (λ e. (bytes_eq-Decides a b).1 (sym ((bytes_eq-Decides b a).0 e)))

-- an entry that was added, where the map had none of its name
pub added-lookup : (es new : List (Bor (List ℕ) × First)) (k : Bor (List ℕ)) (v : First)
    → new ≡ insert_entry (λ x y. slice_cmp nat_cmp x.now y.now) es k v → lookup (λ key. is_eq (slice_cmp nat_cmp k.now key.now)) es ≡ None
    → (name : List ℕ) → lookup (λ key. is_eq (slice_cmp nat_cmp name key.now)) new
    ≡ option_or (lookup (λ key. is_eq (slice_cmp nat_cmp name key.now)) es) (cond (bytes_eq k.now name) (Some v) None)
added-lookup es new k v is absent name =
    ap (found name) is ∙ insert-lookup name es k v
    ∙ absent_first (bytes_eq name k.now) (found name es) v (λ e. ap (λ (x : List ℕ). found x es) ((bytes_eq-Decides name k.now).0 e) ∙ absent)
    ∙ ap (λ t. option_or (found name es) (cond t (Some v) None)) (bytes_eq-sym name k.now)

put_back : (t : Bool) (v earlier : First) (o : Option First) → (t ≡ true → o ≡ Some earlier)
    → cond {A = Option First} t (Some earlier) (cond t (Some v) o) ≡ option_or o (cond t (Some v) None)
put_back true v earlier o there = rw (there refl) refl
put_back false v earlier o there = sym (or_none o)

-- an entry that was there, which another one replaced before it was put back
pub restored-lookup : (es between new : List (Bor (List ℕ) × First)) (k : Bor (List ℕ)) (v earlier : First)
    → between ≡ insert_entry (λ x y. slice_cmp nat_cmp x.now y.now) es k v → new ≡ insert_entry (λ x y. slice_cmp nat_cmp x.now y.now) between k earlier
    → lookup (λ key. is_eq (slice_cmp nat_cmp k.now key.now)) es ≡ Some earlier
    → (name : List ℕ) → lookup (λ key. is_eq (slice_cmp nat_cmp name key.now)) new
    ≡ option_or (lookup (λ key. is_eq (slice_cmp nat_cmp name key.now)) es) (cond (bytes_eq k.now name) (Some v) None)
restored-lookup es between new k v earlier replaced restored there name =
    ap (found name) restored ∙ insert-lookup name between k earlier
    ∙ ap (λ x. cond (bytes_eq name k.now) (Some earlier) x) (ap (found name) replaced ∙ insert-lookup name es k v)
    ∙ put_back (bytes_eq name k.now) v earlier (found name es) (λ e. ap (λ (x : List ℕ). found x es) ((bytes_eq-Decides name k.now).0 e) ∙ there)
    ∙ ap (λ t. option_or (found name es) (cond t (Some v) None)) (bytes_eq-sym name k.now)

-- first labels

or_cond : (t : Bool) (v : First) (o : Option First) → option_or (cond t (Some v) None) o ≡ cond t (Some v) o
or_cond true v o = refl
or_cond false v o = refl

item_of_some : (k n : ℕ) (first : First) → ◌≡◌ {A = Option First} (Some (record { item = k; insns = n })) (Some first) → k ≡ first.item
item_of_some k n first e = let v : First = record { item = k; insns = n } in let same : v ≡ first = same_Some v first e in ap (λ (f : First). f.item) same

or_assoc : (a b c : Option First) → option_or (option_or a b) c ≡ option_or a (option_or b c)
or_assoc None b c = refl
or_assoc (Some v) b c = refl

-- one item more
pub firsts-next : (k n : ℕ) (i : Item) (is : List Item) (old new : Option First) (name : List ℕ) → new ≡ option_or old (cond (is_label name i) (Some (record { item = k; insns = n })) None)
    → option_or new (first_from (k + 1) (n + count_of i) is name) ≡ option_or old (first_from k n (i ∷ is) name)
unfolding first_from
firsts-next k n i is old new name added =
    ap (λ x. option_or x (first_from (k + 1) (n + count_of i) is name)) added
    ∙ or_assoc old (cond (is_label name i) (Some (record { item = k; insns = n })) None) (first_from (k + 1) (n + count_of i) is name)
    ∙ ap (λ x. option_or old x) (or_cond (is_label name i) (record { item = k; insns = n }) (first_from (k + 1) (n + count_of i) is name))

-- behind the last item
pub firsts-end : (k n : ℕ) (items : List Item) (found_first : Option First) (name : List ℕ) → items ≡ [] → option_or found_first (first_from k n items name) ≡ found_first
unfolding first_from
firsts-end k n items found_first name none = ap (λ (x : List Item). option_or found_first (first_from k n x name)) none ∙ or_none found_first

first_place : (k n : ℕ) (items : List Item) (name : List ℕ) (first : First) → first_from k n items name ≡ Some first → k ≤ first.item
unfolding first_from
first_place k n [] name first h = cc
first_place k n (i ∷ is) name first h =
    elim (is_label name i) as (λ (t : Bool). cond t (Some (record { item = k; insns = n })) (first_from (k + 1) (n + count_of i) is name) ≡ Some first → k ≤ first.item) [
      | true ↦ λ e. let same : k ≡ first.item = item_of_some k n first e in omega arith
      | false ↦ λ e. omega (arith, first_place (k + 1) (n + count_of i) is name first e)
    ] h

-- whether a label stands before a place, as its first place tells
abbrev pub before_by : ℕ → Option First → Bool
before_by m None = false
before_by m (Some first) = ltb first.item m

before_none : (k m : ℕ) (o : Option First) → m ≤ k → ((first : First) → o ≡ Some first → k ≤ first.item) → before_by m o ≡ false
before_none k m None less from = refl
before_none k m (Some first) less from = le-ltb first.item m (omega (arith, from first refl))

before_from : (k n : ℕ) (items : List Item) (name : List ℕ) (m : ℕ) → list_any (is_label name) (take m items) ≡ before_by (m + k) (first_from k n items name)
unfolding first_from
before_from k n [] name zero = refl
before_from k n [] name (suc m) = refl
before_from k n (i ∷ is) name zero = sym (before_none k (zero + k) (first_from k n (i ∷ is) name) (omega arith) (first_place k n (i ∷ is) name))
before_from k n (i ∷ is) name (suc m) =
    let place : m + (k + 1) ≡ suc m + k = omega arith in
    elim (is_label name i) as (λ (t : Bool). (t || list_any (is_label name) (take m is)) ≡ before_by (suc m + k) (cond t (Some (record { item = k; insns = n })) (first_from (k + 1) (n + count_of i) is name))) [
      | true ↦ sym (lt-ltb k (suc m + k) (omega arith))
      | false ↦ before_from (k + 1) (n + count_of i) is name m ∙ ap (λ x. before_by x (first_from (k + 1) (n + count_of i) is name)) place
    ]

-- a label of a name stands before a place where its first one does
pub before-first : (items : List Item) (name : List ℕ) (m : ℕ) → list_any (is_label name) (take m items) ≡ before_by m (first_from 0 0 items name)
before-first items name m = let place : m + 0 ≡ m = omega arith in before_from 0 0 items name m ∙ ap (λ x. before_by x (first_from 0 0 items name)) place

-- the item at a place, and those behind it
pub drop-map_seen : (items : List KeptItem) (n : ℕ) (d : KeptItem) → n < length items → drop n (map seen items) ≡ seen (get_or items n d) ∷ drop (n + 1) (map seen items)
drop-map_seen items n d within =
    let here : drop n items ≡ get_or items n d ∷ drop (n + 1) items = rw (add-one, drop-cons items n d) refl in
    drop-map seen n items ∙ ap (map seen) here ∙ ap (λ (x : List Item). seen (get_or items n d) ∷ x) (sym (drop-map seen (n + 1) items))

first_head : (items : List Item) (i j : Item) (later rest : List Item) → items ≡ i ∷ later → items ≡ j ∷ rest → i ≡ j
first_head items i j later rest one two = let same : ◌≡◌ {A = List Item} (i ∷ later) (j ∷ rest) = sym one ∙ two in cc

-- a label whose name no label before it has
first_there : (items : List Item) (place insns : ℕ) (i : Item) (later : List Item) (name : List ℕ) (old : Option First) → drop place items ≡ i ∷ later → is_label name i ≡ true
    → old ≡ None → option_or old (first_from place insns (drop place items) name) ≡ first_from 0 0 items name → list_any (is_label name) (take place items) ≡ false
unfolding first_from
first_there items place insns i later name old there named none all =
    let found : first_from 0 0 items name ≡ Some (record { item = place; insns = insns }) =
    sym all ∙ ap (λ o. option_or o (first_from place insns (drop place items) name)) none
    ∙ ap (λ (x : List Item). first_from place insns x name) there
    ∙ ap (λ t. cond t (Some (record { item = place; insns = insns })) (first_from (place + 1) (insns + count_of i) later name)) named in
    before-first items name place ∙ ap (before_by place) found ∙ le-ltb place place (omega arith)

-- one item more, whose label's name none before it has
pub distinct-next : (body : List KeptItem) (place insns distinct : ℕ) (d : KeptItem) (old : List ℕ → Option First) → place < length body → distinct ≡ place
    → ((name : List ℕ) → is_label name (seen (get_or body place d)) ≡ true → old name ≡ None)
    → ((name : List ℕ) → option_or (old name) (first_from place insns (drop place (map seen body)) name) ≡ first_from 0 0 (map seen body) name)
    → AreDistinct distinct (map seen body) → AreDistinct (place + 1) (map seen body)
distinct-next body place insns distinct d old within all_so_far new all before name p i later less there named =
    let items = map seen body in
    elim (cases_lt p place) [
      | inl earlier ↦ before name p i later (omega (arith, all_so_far)) there named
      | inr here ↦
          let same : p ≡ place = omega arith in
          let place_of : drop place items ≡ i ∷ later = ap (λ n. drop n items) (sym same) ∙ there in
          let item : seen (get_or body place d) ≡ i = first_head (drop place items) (seen (get_or body place d)) i (drop (place + 1) items) later (drop-map_seen body place d within) place_of in
          let is_new : old name ≡ None = new name (ap (is_label name) item ∙ named) in
          ap (λ n. list_any (is_label name) (take n items)) same ∙ first_there items place insns i later name (old name) place_of named is_new (all name)
    ]

-- a label that is known to be the first of its name
pub known-first : (body : List KeptItem) (place distinct : ℕ) (item : KeptItem) (name : List ℕ) → place < length body → AreDistinct distinct (map seen body) → place < distinct
    → get_or body place item ≡ item → is_label name (seen item) ≡ true → list_any (is_label name) (take place (map seen body)) ≡ false
known-first body place distinct item name within before less there named =
    before name place (seen (get_or body place item)) (drop (place + 1) (map seen body)) less (drop-map_seen body place item within) (ap (λ x. is_label name (seen x)) there ∙ named)

label_no_code : (name : List ℕ) (i : Item) → is_label name i ≡ true → is_code i ≡ false
label_no_code name (Label n k) h = refl
label_no_code name (Statement x k) h = cc

any_by_count : (n m : ℕ) (is : List Item) (t : Bool) → list_any is_code is ≡ t → m ≡ n + count_by is_code is → t ≡ ltb n m
any_by_count n m is true some whole = sym (lt-ltb n m (omega (arith, any-counted is_code is some)))
any_by_count n m is false none whole = sym (le-ltb n m (omega (arith, count_by-none is_code is none)))

target_from_first : (k n m : ℕ) (items : List Item) (name : List ℕ) → m ≡ n + count_by is_code items → target_from n items name ≡ target_by m (first_from k n items name)
unfolding target_from first_from
target_from_first k n m [] name whole = refl
target_from_first k n m (i ∷ is) name whole =
    elim (is_label name i) as (λ (t : Bool). is_label name i ≡ t
    → cond t (cond (list_any is_code is) (Some (min n (2 ^ 32 - 1))) None) (target_from (n + count_of i) is name)
    ≡ target_by m (cond t (Some (record { item = k; insns = n })) (first_from (k + 1) (n + count_of i) is name))) [
      | true ↦ λ e.
          let none : ◌≡◌ {A = ℕ} (cond (is_code i) 1 0) 0 = ap (λ (t : Bool). cond {A = ℕ} t 1 0) (label_no_code name i e) in
          ap (λ t. cond t (Some (min n (2 ^ 32 - 1))) None) (any_by_count n m is (list_any is_code is) refl (omega (arith, count-cons is_code i is)))
      | false ↦ λ e. target_from_first (k + 1) (n + count_of i) m is name (omega (arith, count-cons is_code i is))
    ] refl

-- where a name leads, as its first label and the number of instructions tell
pub target-first : (items : List Item) (name : List ℕ) → target_of items name ≡ target_by (count_by is_code items) (first_from 0 0 items name)
unfolding target_of
target-first items name = target_from_first 0 0 (count_by is_code items) items name (omega arith)

-- a turn of the loop that gathers first labels
pub places-next : (body : List KeptItem) (place insns count : ℕ) (d : KeptItem) (old new all : List ℕ → Option First) → count ≡ count_of (seen (get_or body place d))
    → place < length body
    → ((name : List ℕ) → new name ≡ option_or (old name) (cond (is_label name (seen (get_or body place d))) (Some (record { item = place; insns = insns })) None))
    → ((name : List ℕ) → option_or (old name) (first_from place insns (drop place (map seen body)) name) ≡ all name)
    → (name : List ℕ) → option_or (new name) (first_from (place + 1) (insns + count) (drop (place + 1) (map seen body)) name) ≡ all name
places-next body place insns count d old new all counted within added before name =
    let i : Item = seen (get_or body place d) in
    ap (λ n. option_or (new name) (first_from (place + 1) (insns + n) (drop (place + 1) (map seen body)) name)) counted
    ∙ firsts-next place insns i (drop (place + 1) (map seen body)) (old name) (new name) name (added name)
    ∙ ap (λ (x : List Item). option_or (old name) (first_from place insns x name)) (sym (drop-map_seen body place d within))
    ∙ before name

count_of-le : (i : Item) → count_of i ≤ 1
count_of-le i = elim (is_code i) as (λ (t : Bool). cond {A = ℕ} t 1 0 ≤ 1) [ true ↦ omega arith | false ↦ omega arith ]

pub counts-next : (body : List KeptItem) (place insns count : ℕ) (d : KeptItem) → count ≡ count_of (seen (get_or body place d)) → place < length body
    → insns + count_by is_code (drop place (map seen body)) ≡ count_by is_code (map seen body) → insns ≤ place
    → (insns + count + count_by is_code (drop (place + 1) (map seen body)) ≡ count_by is_code (map seen body)) × (insns + count ≤ place + 1)
counts-next body place insns count d counted within before few =
    let i : Item = seen (get_or body place d) in
    let here : count_by is_code (drop place (map seen body)) ≡ count_by is_code (i ∷ drop (place + 1) (map seen body)) = ap (count_by is_code) (drop-map_seen body place d within) in
    (omega (arith, count-cons is_code i (drop (place + 1) (map seen body))), omega (arith, count_of-le i))

-- no items are left
pub items-gone : (body : List KeptItem) (place : ℕ) → length body ≤ place → drop place (map seen body) ≡ []
items-gone body place past = drop_of_length-le (map seen body) (omega (arith, length-map body seen))

pub counts-end : (body : List KeptItem) (place insns : ℕ) → length body ≤ place → insns + count_by is_code (drop place (map seen body)) ≡ count_by is_code (map seen body)
    → insns ≡ count_by is_code (map seen body)
counts-end body place insns past before =
    let none : count_by is_code (drop place (map seen body)) ≡ 0 = ap (count_by is_code) (items-gone body place past) in omega arith

-- where a name leads, by what is kept
pub target-kept : (items : List Item) (name : List ℕ) (insns : ℕ) (kept : Option First) → kept ≡ first_from 0 0 items name → insns ≡ count_by is_code items
    → target_by insns kept ≡ target_of items name
target-kept items name insns kept is counted =
    ap (target_by insns) is ∙ ap (λ n. target_by n (first_from 0 0 items name)) counted ∙ sym (target-first items name)

pub target-inside : (first : First) (insns : ℕ) → first.insns < insns → target_by insns (Some first) ≡ Some (min first.insns (2 ^ 32 - 1))
target-inside first insns less = ap (λ t. cond t (Some (min first.insns (2 ^ 32 - 1))) None) (lt-ltb first.insns insns less)

pub target-behind : (first : First) (insns : ℕ) → insns ≤ first.insns → target_by insns (Some first) ≡ None
target-behind first insns more = ap (λ t. cond t (Some (min first.insns (2 ^ 32 - 1))) None) (le-ltb first.insns insns more)

-- the last line, where an item ends the body
pub last-shared : (lines : ℕ) (body after : List KeptItem) (ending : KeptItem) (more : List KeptItem) (line : ℕ) → after ≡ ending ∷ more → line ≡ line_of (seen ending)
    → list_any (λ i. eqb (line_of i) line) (map seen body) ≡ true → line ≡ last_line lines (map seen body) (map seen after)
last-shared lines body after ending more line is number some =
    let shared : list_any (λ i. eqb (line_of i) (line_of (seen ending))) (map seen body) ≡ true =
    ap (λ n. list_any (λ i. eqb (line_of i) n) (map seen body)) (sym number) ∙ some in
    number ∙ sym (ap (λ (x : List KeptItem). last_line lines (map seen body) (map seen x)) is ∙ ap (λ t. cond t (line_of (seen ending)) (line_of (seen ending) - 1)) shared)

pub last-before : (lines : ℕ) (body after : List KeptItem) (ending : KeptItem) (more : List KeptItem) (line result : ℕ) → after ≡ ending ∷ more → line ≡ line_of (seen ending)
    → list_any (λ i. eqb (line_of i) line) (map seen body) ≡ false → result ≡ line - 1 → result ≡ last_line lines (map seen body) (map seen after)
last-before lines body after ending more line result is number none less =
    let alone : list_any (λ i. eqb (line_of i) (line_of (seen ending))) (map seen body) ≡ false =
    ap (λ n. list_any (λ i. eqb (line_of i) n) (map seen body)) (sym number) ∙ none in
    less ∙ ap (λ n. n - 1) number
    ∙ sym (ap (λ (x : List KeptItem). last_line lines (map seen body) (map seen x)) is ∙ ap (λ t. cond t (line_of (seen ending)) (line_of (seen ending) - 1)) alone)
