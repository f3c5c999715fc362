-- Choices: by the first byte, and among words.
use Rattle.std.proofs.Common.{◌≡◌, ◌⊎◌, inl, inr, ℕ, List, [], ◌∷◌, ◌++◌, true, false, eqb, cond, Ok, Err, refl, sym, ap, ◌∙◌}
use Rattle.std.proofs.lemmas.Bool.{eqb-true, eqb-false}
use Rattle.text_codes.specs.Codes.{IsWrong, IsRead, Reads}
use Rattle.text_codes.specs.Readers.{Reading, choose_at, letters_at}

-- the values whose texts begin with a byte, and those whose texts do not
pub record Chooses {V : Type 0} (c : ℕ) (f : V → List ℕ) (F : V → Type 0) (g : V → List ℕ) (G H : V → Type 0) : Type 0 where
  pub text : (v : V) → G v → f v ≡ c ∷ g v
  pub other : (v : V) (x y : List ℕ) → H v → f v ++ x ≡ c ∷ y → ⊥
  pub first : (v : V) → G v → F v
  pub second : (v : V) → H v → F v
  pub either : (v : V) → F v → G v ⊎ H v

-- behind this byte by the first reader, else by the second
pub choose_reads : {V : Type 0} (c : ℕ) (f : V → List ℕ) (F : V → Type 0) (g : V → List ℕ) (G H : V → Type 0)
    (r s : List ℕ → Reading V) → Chooses c f F g G H → Reads g G r → Reads f H s → Reads f F (choose_at c r s)
choose_reads {V = V} c f F g G H r s ch rg rh = record { right = right }
  where
    not_empty : (w : V) (y : List ℕ) → G w → [] ≡ f w ++ y → ⊥
    not_empty w y h e = let t = ch.text w h in let u : [] ≡ c ∷ (g w ++ y) = e ∙ ap (λ (l : List ℕ). l ++ y) t in cc

    not_other : (b : ℕ) (rest : List ℕ) (w : V) (y : List ℕ) → (b ≡ c → ⊥) → G w → b ∷ rest ≡ f w ++ y → ⊥
    not_other b rest w y apart h e =
        let t = ch.text w h in let u : b ∷ rest ≡ c ∷ (g w ++ y) = e ∙ ap (λ (l : List ℕ). l ++ y) t in apart (heads b c rest (g w ++ y) u)
      where
        heads : (b c : ℕ) (x y : List ℕ) → b ∷ x ≡ c ∷ y → b ≡ c
        heads b c x y e = cc

    -- what the second reads where nothing begins with the byte
    second_at : (text : List ℕ) → ((w : V) (y : List ℕ) → G w → text ≡ f w ++ y → ⊥)
        → ((good : List ℕ) (b : ℕ) (left x : List ℕ) → text ≡ good ++ b ∷ left → (w : V) (y : List ℕ) → G w → good ++ b ∷ x ≡ f w ++ y → ⊥)
        → (q : Reading V) → IsRead f H text q → IsRead f F text q
    second_at text apart apart_on (Ok p) read = record {
      fits = ch.second p.0 read.fits;
      parts = read.parts;
      only = λ w y h e. elim (ch.either w h) [ inl a ↦ absurd (apart w y a e) | inr b ↦ read.only w y b e ];
    }
    second_at text apart apart_on (Err left) read = record {
      good = read.good;
      parts = read.parts;
      value = read.value;
      fits = ch.second read.value read.fits;
      next = read.next;
      more = read.more;
      begins = read.begins;
      wrong = wrong read.good left read.parts read.wrong;
    }
      where
        wrong : (good left : List ℕ) → text ≡ good ++ left → IsWrong f H good left → IsWrong f F good left
        wrong good [] is h = λ w y hw e. elim (ch.either w hw) [
          | inl a ↦ apart w y a (is ∙ (no_more good ∙ e))
          | inr b ↦ h w y b e
        ]
          where
            no_more : (l : List ℕ) → l ++ [] ≡ l
            no_more [] = refl
            no_more (x ∷ l) = ap (λ (t : List ℕ). x ∷ t) (no_more l)
        wrong good (b ∷ left) is h = λ w x y hw e. elim (ch.either w hw) [
          | inl a ↦ apart_on good b left x is w y a e
          | inr d ↦ h w x y d e
        ]

    -- what the first reads behind the byte
    first_at : (b : ℕ) (text : List ℕ) → b ≡ c → (q : Reading V) → IsRead g G text q → IsRead f F (b ∷ text) q
    first_at b text same (Ok p) read = record {
      fits = ch.first p.0 read.fits;
      parts = ap (λ (d : ℕ). d ∷ text) same ∙ (ap (λ (t : List ℕ). c ∷ t) read.parts ∙ ap (λ (t : List ℕ). t ++ p.1) (sym (ch.text p.0 read.fits)));
      only = λ w y h e. elim (ch.either w h) [
        | inl a ↦ read.only w y a (tails b c text (g w ++ y) (e ∙ ap (λ (t : List ℕ). t ++ y) (ch.text w a)))
        | inr d ↦ absurd (ch.other w y text d (sym e ∙ ap (λ (d : ℕ). d ∷ text) same))
      ];
    }
      where
        tails : (b c : ℕ) (x y : List ℕ) → b ∷ x ≡ c ∷ y → x ≡ y
        tails b c x y e = cc
    first_at b text same (Err left) read = record {
      good = b ∷ read.good;
      parts = ap (λ (t : List ℕ). b ∷ t) read.parts;
      value = read.value;
      fits = ch.first read.value read.fits;
      next = read.next;
      more = read.more;
      begins = ch.text read.value read.fits ∙ (ap (λ (t : List ℕ). c ∷ t) read.begins ∙ ap (λ (d : ℕ). d ∷ (read.good ++ read.next ∷ read.more)) (sym same));
      wrong = wrong read.good left read.wrong;
    }
      where
        tails : (b c : ℕ) (x y : List ℕ) → b ∷ x ≡ c ∷ y → x ≡ y
        tails b c x y e = cc

        wrong : (good left : List ℕ) → IsWrong g G good left → IsWrong f F (b ∷ good) left
        wrong good [] h = λ w y hw e. elim (ch.either w hw) [
          | inl a ↦ h w y a (tails b c good (g w ++ y) (e ∙ ap (λ (t : List ℕ). t ++ y) (ch.text w a)))
          | inr d ↦ ch.other w y good d (sym e ∙ ap (λ (d : ℕ). d ∷ good) same)
        ]
        wrong good (l ∷ left) h = λ w x y hw e. elim (ch.either w hw) [
          | inl a ↦ h w x y a (tails b c (good ++ l ∷ x) (g w ++ y) (e ∙ ap (λ (t : List ℕ). t ++ y) (ch.text w a)))
          | inr d ↦ ch.other w y (good ++ l ∷ x) d (sym e ∙ ap (λ (d : ℕ). d ∷ (good ++ l ∷ x)) same)
        ]

    front : (b : ℕ) (text good : List ℕ) (d : ℕ) (left x : List ℕ) → b ∷ text ≡ good ++ d ∷ left
        → (t : List ℕ) × (good ++ d ∷ x ≡ b ∷ t)
    front b text [] d left x e = (x, same e)
      where
        same : b ∷ text ≡ d ∷ left → d ∷ x ≡ b ∷ x
        same e = cc
    front b text (g0 ∷ good) d left x e = (good ++ d ∷ x, same e)
      where
        same : b ∷ text ≡ g0 ∷ (good ++ d ∷ left) → g0 ∷ (good ++ d ∷ x) ≡ b ∷ (good ++ d ∷ x)
        same e = cc

    right : (text : List ℕ) → IsRead f F text (choose_at c r s text)
    right [] = second_at [] not_empty (λ good b left x is w y h e. nothing good b left is) (s []) (rh.right [])
      where
        nothing : (good : List ℕ) (b : ℕ) (left : List ℕ) → [] ≡ good ++ b ∷ left → ⊥
        nothing [] b left e = cc
        nothing (x ∷ good) b left e = cc
    right (b ∷ text) =
        elim (eqb b c) as (λ t. eqb b c ≡ t → IsRead f F (b ∷ text) (cond t (r text) (s (b ∷ text)))) [
          | true ↦ λ e. first_at b text (eqb-true b c e) (r text) (rg.right text)
          | false ↦ λ e. second_at (b ∷ text) (λ w y h is. not_other b text w y (eqb-false b c e) h is)
              (λ good d left x is w y h u. let t = front b text good d left x is in not_other b t.0 w y (eqb-false b c e) h (sym t.1 ∙ u))
              (s (b ∷ text)) (rh.right (b ∷ text))
        ] refl

-- by letters

-- a number is the letter of one of these kinds
abbrev pub IsLetter : {R : Type 0} → ℕ → List (ℕ × R) → Type 0
IsLetter n [] = ⊥
IsLetter n (kind ∷ kinds) = (n ≡ kind.0) ⊎ IsLetter n kinds

-- each kind's reader reads what is behind its letter
abbrev pub EachReads : {V : Type 0} → (V → List ℕ) → (V → Type 0) → (V → ℕ) → List (ℕ × (List ℕ → Reading V)) → Type 0
EachReads body F letter [] = Unit {0}
EachReads body F letter (kind ∷ kinds) = Reads body (λ v. F v × (letter v ≡ kind.0)) kind.1 × EachReads body F letter kinds

module _ {V : Type 0} (f : V → List ℕ) (F : V → Type 0) (letter : V → ℕ) (body : V → List ℕ)
    (text_is : (v : V) → F v → f v ≡ letter v ∷ body v) where
  tails : (b c : ℕ) (x y : List ℕ) → b ∷ x ≡ c ∷ y → x ≡ y
  tails b c x y e = cc

  heads : (b c : ℕ) (x y : List ℕ) → b ∷ x ≡ c ∷ y → b ≡ c
  heads b c x y e = cc

  spelled : (w : V) (y : List ℕ) → F w → f w ++ y ≡ letter w ∷ (body w ++ y)
  spelled w y h = ap (λ (t : List ℕ). t ++ y) (text_is w h)

  lifted : (b c : ℕ) (text : List ℕ) → b ≡ c → (q : Reading V) → IsRead body (λ v. F v × (letter v ≡ c)) text q → IsRead f F (b ∷ text) q
  lifted b c text same (Ok p) read = record {
    fits = read.fits.0;
    parts = ap (λ (t : List ℕ). b ∷ t) read.parts ∙ (ap (λ (d : ℕ). d ∷ (body p.0 ++ p.1)) (same ∙ sym read.fits.1) ∙ sym (spelled p.0 p.1 read.fits.0));
    only = λ w y h e.
        let is = e ∙ spelled w y h in
        read.only w y (h, sym (heads b (letter w) text (body w ++ y) is) ∙ same) (tails b (letter w) text (body w ++ y) is);
  }
  lifted b c text same (Err left) read = record {
    good = b ∷ read.good;
    parts = ap (λ (t : List ℕ). b ∷ t) read.parts;
    value = read.value;
    fits = read.fits.0;
    next = read.next;
    more = read.more;
    begins = text_is read.value read.fits.0 ∙ (ap (λ (t : List ℕ). letter read.value ∷ t) read.begins
        ∙ ap (λ (d : ℕ). d ∷ (read.good ++ read.next ∷ read.more)) (read.fits.1 ∙ sym same));
    wrong = wrong read.good left read.wrong;
  }
    where
      wrong : (good left : List ℕ) → IsWrong body (λ v. F v × (letter v ≡ c)) good left → IsWrong f F (b ∷ good) left
      wrong good [] h = λ w y hw e.
          let is = e ∙ spelled w y hw in
          h w y (hw, sym (heads b (letter w) good (body w ++ y) is) ∙ same) (tails b (letter w) good (body w ++ y) is)
      wrong good (d ∷ left) h = λ w x y hw e.
          let is = e ∙ spelled w y hw in
          h w x y (hw, sym (heads b (letter w) (good ++ d ∷ x) (body w ++ y) is) ∙ same) (tails b (letter w) (good ++ d ∷ x) (body w ++ y) is)

  letters_from : (example : V) → F example → (kinds : List (ℕ × (List ℕ → Reading V))) → EachReads body F letter kinds
      → (b : ℕ) (text : List ℕ) → ((v : V) → F v → letter v ≡ b → IsLetter (letter v) kinds)
      → IsRead f F (b ∷ text) (letters_at kinds (b ∷ text))
  letters_from example fits [] reads b text among = record {
    good = [];
    parts = refl;
    value = example;
    fits = fits;
    next = letter example;
    more = body example;
    begins = text_is example fits;
    wrong = λ w x y hw e. among w hw (sym (heads b (letter w) x (body w ++ y) (e ∙ spelled w y hw)));
  }
  letters_from example fits (kind ∷ kinds) reads b text among =
      elim (eqb b kind.0) as (λ t. eqb b kind.0 ≡ t → IsRead f F (b ∷ text) (cond t (kind.1 text) (letters_at kinds (b ∷ text)))) [
        | true ↦ λ e. lifted b kind.0 text (eqb-true b kind.0 e) (kind.1 text) (reads.0.right text)
        | false ↦ λ e. letters_from example fits kinds reads.1 b text (λ v h is. elim (among v h is) [
          | inl a ↦ absurd (eqb-false b kind.0 e (sym is ∙ a))
          | inr more ↦ more
        ])
      ] refl

  -- behind each letter by its reader
  pub letters_reads : (example : V) → F example → (kind : ℕ × (List ℕ → Reading V)) (kinds : List (ℕ × (List ℕ → Reading V)))
      → EachReads body F letter (kind ∷ kinds) → ((v : V) → F v → IsLetter (letter v) (kind ∷ kinds)) → Reads f F (letters_at (kind ∷ kinds))
  letters_reads example fits kind kinds reads among = record { right = right }
    where
      nothing : (w : V) (y : List ℕ) → F w → [] ≡ f w ++ y → ⊥
      nothing w y h e = let u : [] ≡ letter w ∷ (body w ++ y) = e ∙ spelled w y h in cc

      right : (text : List ℕ) → IsRead f F text (letters_at (kind ∷ kinds) text)
      right [] = record {
        good = [];
        parts = refl;
        value = example;
        fits = fits;
        next = letter example;
        more = body example;
        begins = text_is example fits;
        wrong = λ w y hw e. nothing w y hw e;
      }
      right (b ∷ text) = letters_from example fits (kind ∷ kinds) reads b text (λ v h is. among v h)
