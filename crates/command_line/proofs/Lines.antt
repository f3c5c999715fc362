-- Lines that are read one argument after another: what the code reads are the options and the plain arguments, and no other.
use Rattle.std.proofs.Common.{◌≡◌, ◌≢◌, inl, inr, ℕ, Bool, true, false, List, [], ◌∷◌, ◌++◌, append-nil, append_assoc, Option, Some, None, refl, sym, ◌∙◌, ap, ap₂, subst, option_map, codes, if◌then◌else◌}
use Rattle.std.specs.List.{AllByRecursion}
use Rattle.command_line.specs.Parts.{AreRead, EndsWith, IsFlag, IsPart, Joined, Part, Plain, Separate, Valued, is_bare, is_dashed, options_in, plain_in, written}
use Rattle.command_line.specs.Reading.{AllPlain, Bare, Item, Line, Mode, Nothing, Usual, ValueOf, WithValue, after_turn, ended, joined, line_in, pushed, turn, usual_turn, with_item}
use Rattle.command_line.proofs.Texts.{IsUsualTurn, OfTurn, bare-turn, joined-turn, named-turn, turn-known}

-- ---- turns of the loop

abbrev pub no_line : Line
no_line = record { options = []; plain = [] }

pub line-start : (o : Option Line) → o ≡ option_map (joined no_line) o
line-start None = refl
line-start (Some line) = refl

push-one : (line m : Line) (item : Item) → joined line (with_item item m) ≡ joined (pushed line item) m
push-one line m Nothing = refl
push-one line m (Bare w) = ap (λ (p : List (List ℕ)). joined (record line { plain = [] }) (record m { plain = p })) (sym (append_assoc line.plain (w ∷ []) m.plain))
push-one line m (WithValue o) = ap (λ (p : List Valued). joined (record line { options = [] }) (record m { options = p })) (sym (append_assoc line.options (o ∷ []) m.options))

push-behind : (line : Line) (item : Item) (o : Option Line) → option_map (joined line) (option_map (with_item item) o) ≡ option_map (joined (pushed line item)) o
push-behind line item None = refl
push-behind line item (Some m) = ap (λ (l : Line). Some l) (push-one line m item)

-- an argument that is read
pub line-turn : (line : Line) (mode next : Mode) (item : Item) (w : List ℕ) (ws : List (List ℕ)) → turn mode w ≡ Some (item, next)
    → option_map (joined line) (line_in mode (w ∷ ws)) ≡ option_map (joined (pushed line item)) (line_in next ws)
unfolding line_in
line-turn line mode next item w ws h = ap (λ t. option_map (joined line) (after_turn (λ n. line_in n ws) t)) h ∙ push-behind line item (line_in next ws)

-- an argument that is refused
pub line-refused : (line : Line) (mode : Mode) (w : List ℕ) (ws : List (List ℕ)) → turn mode w ≡ None → option_map (joined line) (line_in mode (w ∷ ws)) ≡ None
unfolding line_in
line-refused line mode w ws h = ap (λ t. option_map (joined line) (after_turn (λ n. line_in n ws) t)) h

-- the end, where a value is missing and where none is
pub line-open : (line : Line) (flag : List ℕ) → option_map (joined line) (line_in (ValueOf flag) []) ≡ None
unfolding line_in ended
line-open line flag = refl

whole-line : (line : Line) → joined line no_line ≡ line
whole-line line = ap₂ (λ (o : List Valued) (p : List (List ℕ)). record { options = o; plain = p }) (append-nil line.options) (append-nil line.plain)

pub line-done : (line : Line) (mode : Mode) → ((flag : List ℕ) → mode ≢ ValueOf flag) → option_map (joined line) (line_in mode []) ≡ Some line
unfolding line_in ended
line-done line Usual other = ap (λ (l : Line). Some l) (whole-line line)
line-done line (ValueOf flag) other = absurd (other flag refl)
line-done line AllPlain other = ap (λ (l : Line). Some l) (whole-line line)

-- ---- what is read is right

plain-part : (w : List ℕ) (ws : List (List ℕ)) (o : List Valued) (p : List (List ℕ)) → is_bare w ≡ true → AreRead ws o p → AreRead (w ∷ ws) o (w ∷ p)
plain-part w ws o p bare r =
    record { parts = Plain w ∷ r.parts; each = (bare, r.each); end = r.end; last = r.last; ends = r.ends; whole = ap (λ x. w ∷ x) r.whole; options_are = r.options_are; plain_are = ap (λ x. w ∷ x) r.plain_are }

joined-part : (option : Valued) (ws : List (List ℕ)) (o : List Valued) (p : List (List ℕ)) → IsFlag option.flag → option.value ≢ [] → AreRead ws o p
    → AreRead ((option.flag ++ 61 ∷ option.value) ∷ ws) (option ∷ o) p
joined-part option ws o p flag some r =
    record { parts = Joined option ∷ r.parts; each = ((flag, some), r.each); end = r.end; last = r.last; ends = r.ends; whole = ap (λ x. (option.flag ++ 61 ∷ option.value) ∷ x) r.whole; options_are = ap (λ x. option ∷ x) r.options_are; plain_are = r.plain_are }

separate-part : (option : Valued) (ws : List (List ℕ)) (o : List Valued) (p : List (List ℕ)) → IsFlag option.flag → is_dashed option.value ≡ false → AreRead ws o p
    → AreRead (option.flag ∷ option.value ∷ ws) (option ∷ o) p
separate-part option ws o p flag dashed r =
    record { parts = Separate option ∷ r.parts; each = ((flag, dashed), r.each); end = r.end; last = r.last; ends = r.ends; whole = ap (λ x. option.flag ∷ option.value ∷ x) r.whole; options_are = ap (λ x. option ∷ x) r.options_are; plain_are = r.plain_are }

-- what the line of some arguments says of them, by what is open before them
abbrev Reads : Mode → List (List ℕ) → Line → Type 0
Reads Usual ws l = AreRead ws l.options l.plain
Reads (ValueOf flag) ws l =
    (v : List ℕ) × (rest : List (List ℕ)) × (m : Line) × (ws ≡ v ∷ rest) × (is_dashed v ≡ false) × AreRead rest m.options m.plain
    × (l ≡ with_item (WithValue (record { flag = flag; value = v })) m)
Reads AllPlain ws l = (l.options ≡ []) × (l.plain ≡ ws)

mapped : (item : Item) (o : Option Line) (l : Line) → option_map (with_item item) o ≡ Some l → (m : Line) × (o ≡ Some m) × (l ≡ with_item item m)
mapped item None l h = cc
mapped item (Some m) l h = (m, refl, cc)

abbrev ReadsAll : List (List ℕ) → Type 0
ReadsAll ws = (mode : Mode) (m : Line) → line_in mode ws ≡ Some m → Reads mode ws m

usual-item : (w : List ℕ) (ws : List (List ℕ)) (item : Item) (next : Mode) (m : Line) → IsUsualTurn w item next → Reads next ws m → Reads Usual (w ∷ ws) (with_item item m)
usual-item w ws Nothing next m (inl is) r =
    let all = subst (λ (n : Mode). Reads n ws m) is.1 r in
    record { parts = []; each = tt; end = codes "--" ∷ ws; last = ws; ends = inr refl; whole = ap (λ x. x ∷ ws) is.0; options_are = all.0; plain_are = all.1 }
usual-item w ws Nothing next m (inr is) r =
    let v = subst (λ (n : Mode). Reads n ws m) is.1 r in
    let P : List (List ℕ) → Line → Type 0 = λ rest l. AreRead (w ∷ rest) l.options l.plain in
    let whole = separate-part (record { flag = w; value = v.0 }) v.1 v.2.options v.2.plain is.0 v.4 v.5 in
    subst (λ rest. P rest m) (sym v.3) (subst (λ (l : Line). P (v.0 ∷ v.1) l) (sym v.6) whole)
usual-item w ws (Bare x) next m is r =
    let rest = subst (λ (n : Mode). Reads n ws m) is.2 r in
    subst (λ (y : List ℕ). AreRead (w ∷ ws) m.options (y ∷ m.plain)) (sym is.1) (plain-part w ws m.options m.plain is.0 rest)
usual-item w ws (WithValue o) next m is r =
    let rest = subst (λ (n : Mode). Reads n ws m) is.3 r in
    subst (λ (y : List ℕ). AreRead (y ∷ ws) (o ∷ m.options) m.plain) (sym is.2) (joined-part o ws m.options m.plain is.0 is.1 rest)

usual-step : (w : List ℕ) (ws : List (List ℕ)) (l : Line) (t : Option (Item × Mode)) → OfTurn (IsUsualTurn w) t → ReadsAll ws
    → after_turn (λ next. line_in next ws) t ≡ Some l → Reads Usual (w ∷ ws) l
usual-step w ws l None is more h = cc
usual-step w ws l (Some t) is more h =
    let found = mapped t.0 (line_in t.1 ws) l h in
    subst (λ (x : Line). Reads Usual (w ∷ ws) x) (sym found.2) (usual-item w ws t.0 t.1 found.0 is (more t.1 found.0 found.1))

valued-step : (flag w : List ℕ) (ws : List (List ℕ)) (l : Line) (dashed : Bool) → is_dashed w ≡ dashed → ReadsAll ws
    → after_turn (λ next. line_in next ws) (if dashed then None else Some (WithValue (record { flag = flag; value = w }), Usual)) ≡ Some l
    → Reads (ValueOf flag) (w ∷ ws) l
valued-step flag w ws l true dashed more h = cc
valued-step flag w ws l false dashed more h =
    let found = mapped (WithValue (record { flag = flag; value = w })) (line_in Usual ws) l h in
    (w, ws, found.0, refl, dashed, more Usual found.0 found.1, found.2)

plain-step : (w : List ℕ) (ws : List (List ℕ)) (l : Line) → ReadsAll ws → after_turn (λ next. line_in next ws) (Some (Bare w, AllPlain)) ≡ Some l → Reads AllPlain (w ∷ ws) l
plain-step w ws l more h =
    let found = mapped (Bare w) (line_in AllPlain ws) l h in
    let rest = more AllPlain found.0 found.1 in
    (ap (λ (x : Line). x.options) found.2 ∙ rest.0, ap (λ (x : Line). x.plain) found.2 ∙ ap (λ p. w ∷ p) rest.1)

line-reads : (ws : List (List ℕ)) → ReadsAll ws
unfolding line_in turn ended
line-reads [] Usual m h =
    let e : m ≡ no_line = cc in
    subst (λ (x : Line). AreRead [] x.options x.plain) (sym e) (record { parts = []; each = tt; end = []; last = []; ends = inl (refl, refl); whole = refl; options_are = refl; plain_are = refl })
line-reads [] (ValueOf flag) m h = cc
line-reads [] AllPlain m h = let e : m ≡ no_line = cc in (ap (λ (x : Line). x.options) e, ap (λ (x : Line). x.plain) e)
line-reads (w ∷ ws) Usual m h = usual-step w ws m (usual_turn w) (turn-known w) (line-reads ws) h
line-reads (w ∷ ws) (ValueOf flag) m h = valued-step flag w ws m (is_dashed w) refl (line-reads ws) h
line-reads (w ∷ ws) AllPlain m h = plain-step w ws m (line-reads ws) h

pub line-known : (ws : List (List ℕ)) (l : Line) → line_in Usual ws ≡ Some l → AreRead ws l.options l.plain
line-known ws l h = line-reads ws Usual l h

-- ---- and it is the only one

all-plain : (ws : List (List ℕ)) → line_in AllPlain ws ≡ Some (record { options = []; plain = ws })
unfolding line_in turn ended
all-plain [] = refl
all-plain (w ∷ ws) = ap (option_map (with_item (Bare w))) (all-plain ws)

abbrev line_parts : List Part → List (List ℕ) → Line
line_parts parts last = record { options = options_in parts; plain = plain_in parts ++ last }

nothing-more : (o : Option Line) → option_map (with_item Nothing) o ≡ o
nothing-more None = refl
nothing-more (Some line) = refl

ends-only : (end last : List (List ℕ)) → EndsWith end last → line_in Usual end ≡ Some (record { options = []; plain = last })
unfolding line_in turn ended usual_turn
ends-only end last (inl h) = rw (h.0, h.1) refl
ends-only end last (inr h) = rw h (nothing-more (line_in AllPlain last) ∙ all-plain last)

parts-only : (parts : List Part) (end last : List (List ℕ)) → AllByRecursion IsPart parts → EndsWith end last
    → line_in Usual (written parts ++ end) ≡ Some (line_parts parts last)
unfolding line_in turn
parts-only [] end last each ends = ends-only end last ends
parts-only (Plain w ∷ parts) end last each ends =
    ap (after_turn (λ next. line_in next (written parts ++ end))) (bare-turn w each.0)
    ∙ ap (option_map (with_item (Bare w))) (parts-only parts end last each.1 ends)
parts-only (Joined o ∷ parts) end last each ends =
    ap (after_turn (λ next. line_in next (written parts ++ end))) (joined-turn o.flag o.value each.0.0 each.0.1)
    ∙ ap (option_map (with_item (WithValue o))) (parts-only parts end last each.1 ends)
parts-only (Separate o ∷ parts) end last each ends =
    ap (after_turn (λ next. line_in next (o.value ∷ (written parts ++ end)))) (named-turn o.flag each.0.0)
    ∙ rw each.0.1 (nothing-more (option_map (with_item (WithValue o)) (line_in Usual (written parts ++ end)))
    ∙ ap (option_map (with_item (WithValue o))) (parts-only parts end last each.1 ends))

pub line-only : (ws : List (List ℕ)) (options : List Valued) (plain : List (List ℕ)) → AreRead ws options plain
    → line_in Usual ws ≡ Some (record { options = options; plain = plain })
line-only ws options plain r =
    ap (line_in Usual) r.whole ∙ parts-only r.parts r.end r.last r.each r.ends
    ∙ ap (λ (l : Line). Some l) (ap₂ (λ (o : List Valued) (p : List (List ℕ)). record { options = o; plain = p }) (sym r.options_are) (sym r.plain_are))
