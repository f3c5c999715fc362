-- Spans of the same contents.
use Rattle.std.proofs.Common.{◌≡◌, ℕ, List, [], ◌∷◌, length, refl, ap}
use Rattle.memory_spans.specs.declared.span.Span.{Span}
use Rattle.memory_spans.specs.Spans.{byte_of, contents, places}

first_content : (a b : ℕ × List ℕ) (more rest : List (ℕ × List ℕ)) → a ∷ more ≡ b ∷ rest → a ≡ b
first_content a b more rest e = cc

more_contents : (a b : ℕ × List ℕ) (more rest : List (ℕ × List ℕ)) → a ∷ more ≡ b ∷ rest → more ≡ rest
more_contents a b more rest e = cc

-- spans of the same contents stand at the same places
pub places_by_contents : (old new : List Span) → contents new ≡ contents old → places new ≡ places old
places_by_contents [] [] e = refl
places_by_contents [] (n ∷ ns) e = cc
places_by_contents (s ∷ ss) [] e = cc
places_by_contents (s ∷ ss) (n ∷ ns) e =
    let first = first_content (n.at, n.bytes.items) (s.at, s.bytes.items) (contents ns) (contents ss) e in
    let more = more_contents (n.at, n.bytes.items) (s.at, s.bytes.items) (contents ns) (contents ss) e in
    λ i. ((first i).0, length (first i).1) ∷ places_by_contents ss ns more i

-- spans of the same contents have the same bytes
pub byte_by_contents : (old new : List Span) (x : ℕ) → contents new ≡ contents old → byte_of new x ≡ byte_of old x
byte_by_contents [] [] x e = refl
byte_by_contents [] (n ∷ ns) x e = cc
byte_by_contents (s ∷ ss) [] x e = cc
byte_by_contents (s ∷ ss) (n ∷ ns) x e =
    let first = first_content (n.at, n.bytes.items) (s.at, s.bytes.items) (contents ns) (contents ss) e in
    let more = more_contents (n.at, n.bytes.items) (s.at, s.bytes.items) (contents ns) (contents ss) e in
    let at : n.at ≡ s.at = ap (λ (p : ℕ × List ℕ). p.0) first in
    let bytes : n.bytes.items ≡ s.bytes.items = ap (λ (p : ℕ × List ℕ). p.1) first in
    rw (at, bytes, byte_by_contents ss ns x more) refl
