-- Words, pairs and lists of what is read rightly are read rightly.
use Rattle.std.proofs.Common.{◌≡◌, ℕ, suc, zero, ◌+◌, ◌<◌, ◌≤◌, ◌^◌, List, [], ◌∷◌, ◌++◌, length, true, false, eqb, cond, Ok, Err, refl, sym, ap, ◌∙◌, subst, arith}
use Rattle.std.specs.List.{AllByRecursion}
use Rattle.std.proofs.lemmas.Bool.{eqb-true, eqb-false}
use Rattle.std.proofs.lemmas.List.{append-nil}
use Rattle.outcomes.specs.Firsts.{◌>>=◌}
use Rattle.text_codes.specs.Codes.{IsWrong, IsRead, Reads}
use Rattle.text_codes.specs.Lists.{texts_of, line_of, AreListed, numbered_of, EachNumbered}
use Rattle.text_codes.specs.Readers.{Reading, word_at, behind, pair_at, made_at, then_at, times_at, counted_at, line_at, counted_line_at, numbered_at}
use Rattle.text_codes.proofs.Chains.{free, some, With, chain_at, Alike, alike_at, made_pair}

-- a condition in other words

pub refit_at : {V : Type 0} (f : V → List ℕ) (F G : V → Type 0) → ((v : V) → F v → G v) → ((v : V) → G v → F v)
    → (text : List ℕ) (q : Reading V) → IsRead f G text q → IsRead f F text q
refit_at f F G there back text (Ok p) read =
    record { fits = back p.0 read.fits; parts = read.parts; only = λ w y hw e. read.only w y (there w hw) e }
refit_at f F G there back text (Err left) read = record {
  good = read.good;
  parts = read.parts;
  value = read.value;
  fits = back read.value read.fits;
  next = read.next;
  more = read.more;
  begins = read.begins;
  wrong = wrong read.good left read.wrong;
}
  where
    wrong : (good left : List ℕ) → IsWrong f G good left → IsWrong f F good left
    wrong good [] h = λ w y hw e. h w y (there w hw) e
    wrong good (b ∷ left) h = λ w x y hw e. h w x y (there w hw) e

-- the same values with the same texts, and conditions that hold of the same values
pub refit : {V : Type 0} (f g : V → List ℕ) (F G : V → Type 0) (r : List ℕ → Reading V) → ((v : V) → G v → f v ≡ g v)
    → ((v : V) → F v → G v) → ((v : V) → G v → F v) → Reads g G r → Reads f F r
refit {V = V} f g F G r text there back rd = record { right = λ (t : List ℕ). again t (r t) (rd.right t) }
  where
    along : (w : V) (y : List ℕ) → G w → f w ++ y ≡ g w ++ y
    along w y h = ap (λ (t : List ℕ). t ++ y) (text w h)

    wrong : (good left : List ℕ) → IsWrong g G good left → IsWrong f F good left
    wrong good [] h = λ w y hw e. h w y (there w hw) (e ∙ along w y (there w hw))
    wrong good (b ∷ left) h = λ w x y hw e. h w x y (there w hw) (e ∙ along w y (there w hw))

    again : (t : List ℕ) (q : Reading V) → IsRead g G t q → IsRead f F t q
    again t (Ok p) read = record {
      fits = back p.0 read.fits;
      parts = read.parts ∙ sym (along p.0 p.1 read.fits);
      only = λ w y hw e. read.only w y (there w hw) (e ∙ along w y (there w hw));
    }
    again t (Err left) read = record {
      good = read.good;
      parts = read.parts;
      value = read.value;
      fits = back read.value read.fits;
      next = read.next;
      more = read.more;
      begins = text read.value read.fits ∙ read.begins;
      wrong = wrong read.good left read.wrong;
    }

-- words

abbrev pub Anything : Unit {0} → Type 0
Anything u = Unit {0}

-- what a fixed word is read as: itself, or the first byte that differs
word_right : (word text : List ℕ) → IsRead (λ (u : Unit {0}). word) Anything text (word_at word text)
unfolding word_at
word_right [] text = record { fits = tt; parts = refl; only = λ w y h e. (refl, sym e) }
word_right (c ∷ word) [] = record {
  good = [];
  parts = refl;
  value = tt;
  fits = tt;
  next = c;
  more = word;
  begins = refl;
  wrong = λ w y h e. cc;
}
word_right (c ∷ word) (b ∷ text) =
    elim (eqb b c) as (λ t. eqb b c ≡ t → IsRead (λ (u : Unit {0}). c ∷ word) Anything (b ∷ text) (cond t (word_at word text) (Err (b ∷ text)))) [
      | true ↦ λ e. prefixed b c word text (eqb-true b c e) (word_at word text) (word_right word text)
      | false ↦ λ e. record {
        good = [];
        parts = refl;
        value = tt;
        fits = tt;
        next = c;
        more = word;
        begins = refl;
        wrong = λ w x y h is. eqb-false b c e (first b c x (word ++ y) is);
      }
    ] refl
  where
    first : (b c : ℕ) (x y : List ℕ) → b ∷ x ≡ c ∷ y → b ≡ c
    first b c x y e = cc

    behind_it : (b c : ℕ) (x y : List ℕ) → b ∷ x ≡ c ∷ y → x ≡ y
    behind_it b c x y e = cc

    wrong : (b c : ℕ) (word good left : List ℕ) → IsWrong (λ (u : Unit {0}). word) Anything good left
        → IsWrong (λ (u : Unit {0}). c ∷ word) Anything (b ∷ good) left
    wrong b c word good [] h = λ w y u e. h w y u (behind_it b c good (word ++ y) e)
    wrong b c word good (d ∷ left) h = λ w x y u e. h w x y u (behind_it b c (good ++ d ∷ x) (word ++ y) e)

    prefixed : (b c : ℕ) (word text : List ℕ) → b ≡ c → (q : Reading Unit) → IsRead (λ (u : Unit {0}). word) Anything text q
        → IsRead (λ (u : Unit {0}). c ∷ word) Anything (b ∷ text) q
    prefixed b c word text same (Ok p) read = record {
      fits = tt;
      parts = ap (λ (d : ℕ). d ∷ text) same ∙ ap (λ (t : List ℕ). c ∷ t) read.parts;
      only = λ w y h e. read.only w y h (behind_it b c text (word ++ y) e);
    }
    prefixed b c word text same (Err left) read = record {
      good = b ∷ read.good;
      parts = ap (λ (t : List ℕ). b ∷ t) read.parts;
      value = tt;
      fits = tt;
      next = read.next;
      more = read.more;
      begins = ap (λ (t : List ℕ). c ∷ t) read.begins ∙ ap (λ (d : ℕ). d ∷ (read.good ++ read.next ∷ read.more)) (sym same);
      wrong = wrong b c word read.good left read.wrong;
    }

pub word_reads : (word : List ℕ) → Reads (λ (u : Unit {0}). word) Anything (word_at word)
word_reads word = record { right = word_right word }

-- a word, and a value behind it
pub behind_reads : {V : Type 0} (word : List ℕ) (f : V → List ℕ) (F : V → Type 0) (r : List ℕ → Reading V)
    → Reads f F r → Reads (λ v. word ++ f v) F (behind word r)
behind_reads {V = V} word f F r rd = record {
  right = λ (text : List ℕ).
      chain_at (λ v. word ++ f v) F (λ v. tt) f (λ (u : Unit {0}). word) Anything
      (record { text = λ v h. refl; fits = λ v h. tt; some = λ a h. let v = some f F r rd in (v.0, (v.1, refl)) })
      (free (λ (u : Unit {0}). word) Anything (word_at word) (word_reads word))
      text (λ x. r x.1) (word_at word text) (word_right word text)
      (λ a rest h e. refit_at f (With F (λ v. tt) a) F (λ v w. w.0) (λ v w. (w, refl)) rest (r rest) (rd.right rest));
}

-- pairs

abbrev pub Both : {A B : Type 0} → (A → Type 0) → (B → Type 0) → (A × B) → Type 0
Both F G p = F p.0 × G p.1

-- a value made of what is read
pub made_reads : {U V : Type 0} (f : V → List ℕ) (F : V → Type 0) (g : U → List ℕ) (G : U → Type 0) (make : U → V) (r : List ℕ → Reading U)
    → Alike f F g G make → Reads g G r → Reads f F (made_at make r)
made_reads f F g G make r a rd = record { right = λ (text : List ℕ). alike_at f F g G make a text (r text) (rd.right text) }

-- a value, and behind it another, which is read by what the first is
pub then_reads : {A B : Type 0} (f : A → List ℕ) (F : A → Type 0) (g : A → B → List ℕ) (G : A → B → Type 0)
    (r : List ℕ → Reading A) (s : A → List ℕ → Reading B) → Reads f F r → ((a : A) → F a → Reads (g a) (G a) (s a))
    → Reads (λ (p : A × B). f p.0 ++ g p.0 p.1) (λ (p : A × B). F p.0 × G p.0 p.1) (then_at r s)
then_reads {A = A} {B = B} f F g G r s rf rg = record {
  right = λ (text : List ℕ).
      chain_at (λ (p : A × B). f p.0 ++ g p.0 p.1) W (λ (p : A × B). p.0) (λ (p : A × B). g p.0 p.1) f F
      (record { text = λ v h. refl; fits = λ v h. h.0; some = λ a h. let b = some (g a) (G a) (s a) (rg a h) in ((a, b.0), ((h, b.1), refl)) })
      (free f F r rf) text _ (r text) (rf.right text)
      (λ a rest h e. alike_at (λ (p : A × B). g p.0 p.1) (With W (λ (p : A × B). p.0) a) (g a) (G a) (λ (b : B). (a, b))
      (record {
        text = λ u gu. refl;
        fits = λ u gu. ((h, gu), refl);
        from = λ v w. (v.1, (subst (λ (c : A). G c v.1) w.1 w.0.1, ap (λ (c : A). let p : A × B = (c, v.1) in p) (sym w.1)));
      }) rest (s a rest) ((rg a h).right rest));
}
  where
    W : A × B → Type 0
    W p = F p.0 × G p.0 p.1

-- a value, and a value behind it
pub pair_reads : {A B : Type 0} (f : A → List ℕ) (F : A → Type 0) (g : B → List ℕ) (G : B → Type 0)
    (r : List ℕ → Reading A) (s : List ℕ → Reading B) → Reads f F r → Reads g G s
    → Reads (λ (p : A × B). f p.0 ++ g p.1) (Both F G) (pair_at r s)
pair_reads f F g G r s rf rg = then_reads f F (λ a. g) (λ a. G) r (λ a. s) rf (λ a h. rg)

-- so many values

none_listed : {V : Type 0} (F : V → Type 0) (vs : List V) → AreListed F 0 vs → vs ≡ []
none_listed F [] h = refl
none_listed F (v ∷ vs) h = absurd (omega (arith, h.1))

pub none_reads : {V : Type 0} (f : List V → List ℕ) (F : V → Type 0) → f [] ≡ []
    → (text : List ℕ) → IsRead f (AreListed F 0) text (Ok ([], text))
none_reads f F none text = record {
  fits = (tt, refl);
  parts = ap (λ (t : List ℕ). t ++ text) (sym none);
  only = λ w y h e. let is = none_listed F w h in
      (is, sym (e ∙ (ap (λ (t : List _). f t ++ y) is ∙ ap (λ (t : List ℕ). t ++ y) none)));
}

abbrev listed : {V : Type 0} → (V × List V) → List V
listed p = p.0 ∷ p.1

one_more : {V : Type 0} (f : V → List ℕ) (g : List V → List ℕ) (F : V → Type 0) (n : ℕ)
    → ((v : V) (vs : List V) → AreListed F n vs → g (v ∷ vs) ≡ f v ++ g vs)
    → Alike g (AreListed F (suc n)) (λ (p : V × List V). f p.0 ++ g p.1) (Both F (AreListed F n)) listed
one_more f g F n text = record {
  text = λ u h. text u.0 u.1 h.1;
  fits = λ u h. ((h.0, h.1.0), ap suc h.1.1);
  from = λ v h. from v h;
}
  where
    from : (vs : List _) → AreListed F (suc n) vs → (u : _ × List _) × (Both F (AreListed F n) u × (listed u ≡ vs))
    from [] h = absurd (omega (arith, h.1))
    from (v ∷ vs) h = ((v, vs), ((h.0.0, (h.0.1, omega (arith, h.1))), refl))

pub times_reads : {V : Type 0} (f : V → List ℕ) (F : V → Type 0) (r : List ℕ → Reading V) → Reads f F r
    → (n : ℕ) → Reads (texts_of f) (AreListed F n) (times_at r n)
unfolding times_at texts_of
times_reads f F r rd zero = record { right = none_reads (texts_of f) F refl }
times_reads {V = V} f F r rd (suc n) = record {
  right = λ (text : List ℕ).
      subst (IsRead (texts_of f) (AreListed F (suc n)) text) (same text (r text))
      ((made_reads (texts_of f) (AreListed F (suc n)) (λ (p : V × List V). f p.0 ++ texts_of f p.1) (Both F (AreListed F n)) listed
      (pair_at r (times_at r n)) (one_more f (texts_of f) F n (λ v vs h. refl))
      (pair_reads f F (texts_of f) (AreListed F n) r (times_at r n) rd (times_reads f F r rd n))).right text);
}
  where
    made_of : Reading (V × List V) → Reading (List V)
    made_of q = q >>= λ (z : (V × List V) × List ℕ). let y : List V × List ℕ = (listed z.0, z.1) in Ok y

    last : (x : V) (p : Reading (List V)) → made_of (p >>= λ (y : List V × List ℕ). let z : (V × List V) × List ℕ = ((x, y.0), y.1) in Ok z) ≡ (p >>= λ (y : List V × List ℕ). let z : List V × List ℕ = (x ∷ y.0, y.1) in Ok z)
    last x (Ok y) = refl
    last x (Err left) = refl

    same : (text : List ℕ) (q : Reading V) → made_of (q >>= λ (x : V × List ℕ). (times_at r n x.1 >>= λ (y : List V × List ℕ). let z : (V × List V) × List ℕ = ((x.0, y.0), y.1) in Ok z))
        ≡ (q >>= λ (x : V × List ℕ). (times_at r n x.1 >>= λ (y : List V × List ℕ). let z : List V × List ℕ = (x.0 ∷ y.0, y.1) in Ok z))
    same text (Ok x) = last x.0 (times_at r n x.1)
    same text (Err left) = refl

-- so many values, with the bytes that end them

one_line : {V : Type 0} (f : ℕ → V → List ℕ) (n : ℕ) (F : V → Type 0) (v : V) (vs : List V) → AreListed F (suc n) vs
    → line_of f (v ∷ vs) ≡ f 32 v ++ line_of f vs
unfolding line_of
one_line f n F v [] h = absurd (omega (arith, h.1))
one_line f n F v (w ∷ vs) h = refl

pub line_reads : {V : Type 0} (f : ℕ → V → List ℕ) (F : V → Type 0) (r : ℕ → List ℕ → Reading V)
    → Reads (f 10) F (r 10) → Reads (f 32) F (r 32) → (n : ℕ) → Reads (line_of f) (AreListed F n) (line_at r n)
unfolding line_at line_of
line_reads f F r last each zero = record { right = none_reads (line_of f) F refl }
line_reads {V = V} f F r last each (suc zero) =
    made_reads (line_of f) (AreListed F 1) (f 10) F (λ (v : V). v ∷ []) (r 10)
    (record { text = λ u h. append-nil (f 10 u); fits = λ u h. ((h, tt), refl); from = alone }) last
  where
    alone : (vs : List V) → AreListed F 1 vs → (u : V) × (F u × (u ∷ [] ≡ vs))
    alone [] h = absurd (omega (arith, h.1))
    alone (v ∷ []) h = (v, (h.0.0, refl))
    alone (v ∷ (w ∷ vs)) h = absurd (omega (arith, h.1))
line_reads {V = V} f F r last each (suc (suc n)) = record {
  right = λ (text : List ℕ).
      subst (IsRead (line_of f) (AreListed F (suc (suc n))) text) (same text (r 32 text))
      ((made_reads (line_of f) (AreListed F (suc (suc n))) (λ (p : V × List V). f 32 p.0 ++ line_of f p.1) (Both F (AreListed F (suc n))) listed
      (pair_at (r 32) (line_at r (suc n))) (one_more (f 32) (line_of f) F (suc n) (one_line f n F))
      (pair_reads (f 32) F (line_of f) (AreListed F (suc n)) (r 32) (line_at r (suc n)) each (line_reads f F r last each (suc n)))).right text);
}
  where
    made_of : Reading (V × List V) → Reading (List V)
    made_of q = q >>= λ (z : (V × List V) × List ℕ). let y : List V × List ℕ = (listed z.0, z.1) in Ok y

    at_last : (x : V) (p : Reading (List V)) → made_of (p >>= λ (y : List V × List ℕ). let z : (V × List V) × List ℕ = ((x, y.0), y.1) in Ok z)
        ≡ (p >>= λ (y : List V × List ℕ). let z : List V × List ℕ = (x ∷ y.0, y.1) in Ok z)
    at_last x (Ok y) = refl
    at_last x (Err left) = refl

    same : (text : List ℕ) (q : Reading V) → made_of (q >>= λ (x : V × List ℕ). (line_at r (suc n) x.1 >>= λ (y : List V × List ℕ). let z : (V × List V) × List ℕ = ((x.0, y.0), y.1) in Ok z))
        ≡ (q >>= λ (x : V × List ℕ). (line_at r (suc n) x.1 >>= λ (y : List V × List ℕ). let z : List V × List ℕ = (x.0 ∷ y.0, y.1) in Ok z))
    same text (Ok x) = at_last x.0 (line_at r (suc n) x.1)
    same text (Err left) = refl

-- lists behind their counts

-- a list by its count is read by what is read of so many values
pub counted_by : {V : Type 0} (c : ℕ → List ℕ) (C : ℕ → Type 0) (count : List ℕ → Reading ℕ) (g : List V → List ℕ) (F : V → Type 0)
    (r : ℕ → List ℕ → Reading (List V)) → Reads c C count → ((n : ℕ) → Reads g (AreListed F n) (r n))
    → Reads (λ vs. c (length vs) ++ g vs) (λ vs. C (length vs) × AllByRecursion F vs) (made_at (λ (p : ℕ × List V). p.1) (then_at count r))
counted_by {V = V} c C count g F r rc rg =
    made_reads (λ vs. c (length vs) ++ g vs) (λ vs. C (length vs) × AllByRecursion F vs)
    (λ (p : ℕ × List V). c p.0 ++ g p.1) (λ (p : ℕ × List V). C p.0 × AreListed F p.0 p.1) (λ (p : ℕ × List V). p.1) (then_at count r)
    (record {
      text = λ u h. ap (λ (n : ℕ). c n ++ g u.1) h.1.1;
      fits = λ u h. (subst C (sym h.1.1) h.0, h.1.0);
      from = λ vs h. ((length vs, vs), ((h.0, (h.1, refl)), refl));
    })
    (then_reads c C (λ n. g) (AreListed F) count r rc (λ n h. rg n))

pub counted_reads : {V : Type 0} (c : ℕ → List ℕ) (C : ℕ → Type 0) (count : List ℕ → Reading ℕ) (f : V → List ℕ) (F : V → Type 0)
    (r : List ℕ → Reading V) → Reads c C count → Reads f F r
    → Reads (λ vs. c (length vs) ++ texts_of f vs) (λ vs. C (length vs) × AllByRecursion F vs) (counted_at count r)
counted_reads c C count f F r rc rd = counted_by c C count (texts_of f) F (times_at r) rc (times_reads f F r rd)

pub counted_line_reads : {V : Type 0} (c : ℕ → List ℕ) (C : ℕ → Type 0) (count : List ℕ → Reading ℕ) (f : ℕ → V → List ℕ) (F : V → Type 0)
    (r : ℕ → List ℕ → Reading V) → Reads c C count → Reads (f 10) F (r 10) → Reads (f 32) F (r 32)
    → Reads (λ vs. c (length vs) ++ line_of f vs) (λ vs. C (length vs) × AllByRecursion F vs) (counted_line_at count r)
counted_line_reads c C count f F r rc last each = counted_by c C count (line_of f) F (line_at r) rc (line_reads f F r last each)

-- values that are numbered

none_numbered : {V : Type 0} (F : ℕ → V → Type 0) (first : ℕ) (vs : List V) → EachNumbered F first vs × (length vs ≡ 0) → vs ≡ []
none_numbered F first [] h = refl
none_numbered F first (v ∷ vs) h = absurd (omega (arith, h.1))

pub numbered_reads : {V : Type 0} (f : ℕ → V → List ℕ) (F : ℕ → V → Type 0) (r : ℕ → List ℕ → Reading V) → ((i : ℕ) → i < 2 ^ 64 → Reads (f i) (F i) (r i))
    → (first n : ℕ) → first + n ≤ 2 ^ 64 → Reads (numbered_of f first) (λ vs. EachNumbered F first vs × (length vs ≡ n)) (numbered_at r first n)
unfolding numbered_at numbered_of
numbered_reads f F r rd first zero low = record {
  right = λ text. record {
    fits = (tt, refl);
    parts = refl;
    only = λ w y h e. let is = none_numbered F first w h in (is, sym (e ∙ ap (λ (t : List _). numbered_of f first t ++ y) is));
  };
}
numbered_reads {V = V} f F r rd first (suc n) low = record {
  right = λ (text : List ℕ).
      subst (IsRead (numbered_of f first) (λ vs. EachNumbered F first vs × (length vs ≡ suc n)) text) (made_pair listed (r first text) (λ x. numbered_at r (suc first) n x.1))
      ((made_reads (numbered_of f first) (λ vs. EachNumbered F first vs × (length vs ≡ suc n)) (λ (p : V × List V). f first p.0 ++ numbered_of f (suc first) p.1)
      (Both (F first) (λ vs. EachNumbered F (suc first) vs × (length vs ≡ n))) listed (pair_at (r first) (numbered_at r (suc first) n))
      (record { text = λ u h. refl; fits = λ u h. ((h.0, h.1.0), ap suc h.1.1); from = from })
      (pair_reads (f first) (F first) (numbered_of f (suc first)) _ (r first) (numbered_at r (suc first) n) (rd first (omega arith))
      (numbered_reads f F r rd (suc first) n (omega arith)))).right text);
}
  where
    from : (vs : List V) → EachNumbered F first vs × (length vs ≡ suc n)
        → (u : V × List V) × (Both (F first) (λ vs. EachNumbered F (suc first) vs × (length vs ≡ n)) u × (listed u ≡ vs))
    from [] h = absurd (omega (arith, h.1))
    from (v ∷ vs) h = ((v, vs), ((h.0.0, (h.0.1, omega (arith, h.1))), refl))
