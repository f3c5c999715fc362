-- How what is read of parts is what is read of the whole.
use Rattle.std.proofs.Common.{◌≡◌, ℕ, List, [], ◌∷◌, ◌++◌, Ok, Err, refl, sym, ap, ◌∙◌, append_assoc}
use Rattle.std.proofs.lemmas.List.{append-nil}
use Rattle.outcomes.specs.Firsts.{◌>>=◌}
use Rattle.text_codes.specs.Codes.{IsWrong, Stops, IsRead, Reads}
use Rattle.text_codes.specs.Readers.{Reading}

-- where reading stops, no value stands at the front
pub stops_apart : {V : Type 0} (f : V → List ℕ) (F : V → Type 0) (text left : List ℕ) → Stops f F text left
    → (v : V) (x : List ℕ) → F v → text ≡ f v ++ x → ⊥
stops_apart f F text [] s v x h e = s.wrong v x h (sym (append-nil s.good) ∙ (sym s.parts ∙ e))
stops_apart f F text (b ∷ left) s v x h e = s.wrong v left x h (sym s.parts ∙ e)

free_at : {V : Type 0} (f : V → List ℕ) (F : V → Type 0) (text : List ℕ) (q : Reading V) → IsRead f F text q
    → (v w : V) (x y : List ℕ) → F v → F w → text ≡ f v ++ x → text ≡ f w ++ y → (v ≡ w) × (x ≡ y)
free_at f F text (Ok p) r v w x y hv hw ev ew =
    let a = r.only v x hv ev in let b = r.only w y hw ew in (a.0 ∙ sym b.0, a.1 ∙ sym b.1)
free_at f F text (Err left) r v w x y hv hw ev ew = absurd (stops_apart f F text left r v x hv ev)

-- no text of a value begins that of another
pub free : {V : Type 0} (f : V → List ℕ) (F : V → Type 0) (r : List ℕ → Reading V) → Reads f F r
    → (v w : V) (x y : List ℕ) → F v → F w → f v ++ x ≡ f w ++ y → (v ≡ w) × (x ≡ y)
free f F r rd v w x y hv hw e = free_at f F (f v ++ x) (r (f v ++ x)) (rd.right (f v ++ x)) v w x y hv hw refl e

pub known_at : {V : Type 0} (f : V → List ℕ) (F : V → Type 0) (text : List ℕ) (q : Reading V) → IsRead f F text q
    → (v : V) (x : List ℕ) → F v → text ≡ f v ++ x → q ≡ Ok (v, x)
known_at {V = V} f F text (Ok p) r v x h e =
    let a = r.only v x h e in ap (λ (u : V). Ok (u, p.1)) (sym a.0) ∙ ap (λ (t : List ℕ). Ok (v, t)) (sym a.1)
known_at f F text (Err left) r v x h e = absurd (stops_apart f F text left r v x h e)

-- the text of a value is read as this
pub known : {V : Type 0} (f : V → List ℕ) (F : V → Type 0) (r : List ℕ → Reading V) → Reads f F r
    → (v : V) (x : List ℕ) → F v → r (f v ++ x) ≡ Ok (v, x)
known f F r rd v x h = known_at f F (f v ++ x) (r (f v ++ x)) (rd.right (f v ++ x)) v x h refl

some_at : {V : Type 0} (f : V → List ℕ) (F : V → Type 0) (text : List ℕ) (q : Reading V) → IsRead f F text q → (v : V) × F v
some_at f F text (Ok p) r = (p.0, r.fits)
some_at f F text (Err left) r = (r.value, r.fits)

-- what is read rightly has a value
pub some : {V : Type 0} (f : V → List ℕ) (F : V → Type 0) (r : List ℕ → Reading V) → Reads f F r → (v : V) × F v
some f F r rd = some_at f F [] (r []) (rd.right [])

-- a whole is a part and a tail, and each part has a whole
pub record Splits {V A : Type 0} (whole : V → List ℕ) (W : V → Type 0) (part : V → A) (tail : V → List ℕ)
    (f : A → List ℕ) (F : A → Type 0) : Type 0 where
  pub text : (v : V) → W v → whole v ≡ f (part v) ++ tail v
  pub fits : (v : V) → W v → F (part v)
  pub some : (a : A) → F a → (v : V) × (W v × (part v ≡ a))

-- a whole with this part
abbrev pub With : {V A : Type 0} → (V → Type 0) → (V → A) → A → V → Type 0
With W part a v = W v × (part v ≡ a)

-- a part that is read and the tail behind it
pub chain_at : {V A : Type 0} (whole : V → List ℕ) (W : V → Type 0) (part : V → A) (tail : V → List ℕ) (f : A → List ℕ) (F : A → Type 0)
    → Splits whole W part tail f F
    → ((v w : A) (x y : List ℕ) → F v → F w → f v ++ x ≡ f w ++ y → (v ≡ w) × (x ≡ y))
    → (text : List ℕ) (k : (A × List ℕ) → Reading V) (q : Reading A) → IsRead f F text q
    → ((a : A) (rest : List ℕ) → F a → text ≡ f a ++ rest → IsRead tail (With W part a) rest (k (a, rest)))
    → IsRead whole W text (q >>= k)
chain_at whole W part tail f F s apart text k (Ok p) read next =
    behind_it (k p) (next p.0 p.1 read.fits read.parts)
  where
    along : (w : _) (y : List ℕ) → W w → whole w ++ y ≡ f (part w) ++ (tail w ++ y)
    along w y h = ap (λ (t : List ℕ). t ++ y) (s.text w h) ∙ append_assoc (f (part w)) (tail w) y

    wrong : (good left : List ℕ) → IsWrong tail (With W part p.0) good left → IsWrong whole W (f p.0 ++ good) left
    wrong good [] h = λ w y hw e.
        let a = apart p.0 (part w) good (tail w ++ y) read.fits (s.fits w hw) (e ∙ along w y hw) in
        h w y (hw, sym a.0) a.1
    wrong good (b ∷ left) h = λ w x y hw e.
        let a = apart p.0 (part w) (good ++ b ∷ x) (tail w ++ y) read.fits (s.fits w hw) (sym (append_assoc (f p.0) good (b ∷ x)) ∙ (e ∙ along w y hw)) in
        h w x y (hw, sym a.0) a.1

    behind_it : (q : Reading _) → IsRead tail (With W part p.0) p.1 q → IsRead whole W text q
    behind_it (Ok z) found = record {
      fits = found.fits.0;
      parts = read.parts ∙ (ap (λ (t : List ℕ). f p.0 ++ t) found.parts
          ∙ (ap (λ (a : _). f a ++ (tail z.0 ++ z.1)) (sym found.fits.1) ∙ sym (along z.0 z.1 found.fits.0)));
      only = λ w y hw e.
          let a = read.only (part w) (tail w ++ y) (s.fits w hw) (e ∙ along w y hw) in
          found.only w y (hw, a.0) (sym a.1);
    }
    behind_it (Err left) found = record {
      good = f p.0 ++ found.good;
      parts = read.parts ∙ (ap (λ (t : List ℕ). f p.0 ++ t) found.parts ∙ sym (append_assoc (f p.0) found.good left));
      value = found.value;
      fits = found.fits.0;
      next = found.next;
      more = found.more;
      begins = s.text found.value found.fits.0 ∙ (ap (λ (a : _). f a ++ tail found.value) found.fits.1
          ∙ (ap (λ (t : List ℕ). f p.0 ++ t) found.begins ∙ sym (append_assoc (f p.0) found.good (found.next ∷ found.more))));
      wrong = wrong found.good left found.wrong;
    }
chain_at whole W part tail f F s apart text k (Err left) read next =
    let v = s.some read.value read.fits in
    record {
      good = read.good;
      parts = read.parts;
      value = v.0;
      fits = v.1.0;
      next = read.next;
      more = read.more ++ tail v.0;
      begins = s.text v.0 v.1.0 ∙ (ap (λ (a : _). f a ++ tail v.0) v.1.1
          ∙ (ap (λ (t : List ℕ). t ++ tail v.0) read.begins ∙ append_assoc read.good (read.next ∷ read.more) (tail v.0)));
      wrong = wrong read.good left read.wrong;
    }
  where
    along : (w : _) (y : List ℕ) → W w → whole w ++ y ≡ f (part w) ++ (tail w ++ y)
    along w y h = ap (λ (t : List ℕ). t ++ y) (s.text w h) ∙ append_assoc (f (part w)) (tail w) y

    wrong : (good left : List ℕ) → IsWrong f F good left → IsWrong whole W good left
    wrong good [] h = λ w y hw e. h (part w) (tail w ++ y) (s.fits w hw) (e ∙ along w y hw)
    wrong good (b ∷ left) h = λ w x y hw e. h (part w) x (tail w ++ y) (s.fits w hw) (e ∙ along w y hw)

-- the values of one type are those of another, with the same texts
pub record Alike {U V : Type 0} (f : V → List ℕ) (F : V → Type 0) (g : U → List ℕ) (G : U → Type 0) (make : U → V) : Type 0 where
  pub text : (u : U) → G u → f (make u) ≡ g u
  pub fits : (u : U) → G u → F (make u)
  pub from : (v : V) → F v → (u : U) × (G u × (make u ≡ v))

pub alike_at : {U V : Type 0} (f : V → List ℕ) (F : V → Type 0) (g : U → List ℕ) (G : U → Type 0) (make : U → V)
    → Alike f F g G make → (text : List ℕ) (q : Reading U) → IsRead g G text q
    → IsRead f F text (q >>= λ (x : U × List ℕ). Ok (make x.0, x.1))
alike_at f F g G make a text (Ok p) read = record {
  fits = a.fits p.0 read.fits;
  parts = read.parts ∙ ap (λ (t : List ℕ). t ++ p.1) (sym (a.text p.0 read.fits));
  only = λ w y hw e.
      let u = a.from w hw in
      let same = read.only u.0 y u.1.0 (e ∙ (ap (λ (v : _). f v ++ y) (sym u.1.1) ∙ ap (λ (t : List ℕ). t ++ y) (a.text u.0 u.1.0))) in
      (sym u.1.1 ∙ ap make same.0, same.1);
}
alike_at f F g G make a text (Err left) read = record {
  good = read.good;
  parts = read.parts;
  value = make read.value;
  fits = a.fits read.value read.fits;
  next = read.next;
  more = read.more;
  begins = a.text read.value read.fits ∙ read.begins;
  wrong = wrong read.good left read.wrong;
}
  where
    along : (w : _) (y : List ℕ) (hw : F w) → f w ++ y ≡ g (a.from w hw).0 ++ y
    along w y hw = ap (λ (v : _). f v ++ y) (sym (a.from w hw).1.1) ∙ ap (λ (t : List ℕ). t ++ y) (a.text (a.from w hw).0 (a.from w hw).1.0)

    wrong : (good left : List ℕ) → IsWrong g G good left → IsWrong f F good left
    wrong good [] h = λ w y hw e. h (a.from w hw).0 y (a.from w hw).1.0 (e ∙ along w y hw)
    wrong good (b ∷ left) h = λ w x y hw e. h (a.from w hw).0 x y (a.from w hw).1.0 (e ∙ along w y hw)

-- a value made of two that are read
pub made_pair : {A B V : Type 0} (make : A × B → V) (q : Reading A) (k : A × List ℕ → Reading B)
    → ((q >>= λ (x : A × List ℕ). (k x >>= λ (y : B × List ℕ). let z : (A × B) × List ℕ = ((x.0, y.0), y.1) in Ok z))
    >>= λ (z : (A × B) × List ℕ). let v : V × List ℕ = (make z.0, z.1) in Ok v)
    ≡ (q >>= λ (x : A × List ℕ). (k x >>= λ (y : B × List ℕ). let v : V × List ℕ = (make (x.0, y.0), y.1) in Ok v))
made_pair {A = A} {B = B} {V = V} make (Ok x) k = last (k x)
  where
    last : (q : Reading B) → ((q >>= λ (y : B × List ℕ). let z : (A × B) × List ℕ = ((x.0, y.0), y.1) in Ok z)
        >>= λ (z : (A × B) × List ℕ). let v : V × List ℕ = (make z.0, z.1) in Ok v)
        ≡ (q >>= λ (y : B × List ℕ). let v : V × List ℕ = (make (x.0, y.0), y.1) in Ok v)
    last (Ok y) = refl
    last (Err left) = refl
made_pair make (Err left) k = refl
