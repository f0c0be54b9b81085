-- Bytes have one outcome at most.
use Rattle.std.proofs.Common.{◌≡◌, ◌∙◌, ap, sym, subst, ℕ, ◌+◌, ◌<◌, true, false, List, [], ◌∷◌, ◌++◌, length, refl, arith, inl, inr, append_assoc, append-nil}
use Rattle.std.specs.List.{list_all}
use Rattle.std.proofs.lemmas.List.{append_cancel_left}
use Rattle.std.proofs.lemmas.List.Folds.{list_all-append}
use Rattle.c_text.specs.declared.tokens.CMark.TheVariants as mark
use Rattle.c_text.specs.CSpelling.{CToken, keyword, named, literal, quoted, operator, marked, token_bytes, is_gap_byte, IsGap, IsWhole, ReadsToken, Spells, includes}
use Rattle.c_text.specs.CGrammar.{IsTextOf, unit_tokens}
use Rattle.c_text.specs.CTree.{ItemTree}
use Rattle.c_read_grammar.specs.Texts.{IsText, IsLive, IsToken, AreTokens, is_opening, open_after, open_behind}
use Rattle.c_read_grammar.specs.Outcomes.{SpellsTo, IsShallow, BeginsText, StandsAt, IsWrongHere, IsStuck, IsTooDeep, stddef_line, stdint_line, string_line, IsBadLine, IsBadHeader, Outcome, whole, too_deep, not_c, HasOutcome}
use Rattle.c_read_grammar.proofs.FirstBytes.{token_sort, BeginsAs, begins-append, begins-token, and-left, and-right, token-no-gap, same-front}
use Rattle.c_read_grammar.proofs.OneSpelling.{one-token, gap-no_token}
use Rattle.c_read_grammar.proofs.TextTokens.{are-unit, one-text}

-- A front of what is live is live.
pub live-front : (front back : List CToken) → IsLive (front ++ back) → IsLive front
live-front front back l = (back ++ l.0, subst IsText (append_assoc front back l.0) l.1)

-- In a shallow list no bracket opens where 512 are open.
pub shallow-at : (n : ℕ) (front : List CToken) (t : CToken) (back : List CToken) → IsShallow n (front ++ t ∷ back) → is_opening t ≡ true → open_behind n front < 512
shallow-at n [] t back s h = s.0 h
shallow-at n (x ∷ front) t back s h = shallow-at (open_after n x) front t back s.1 h

-- Nothing that stands here goes on.
abbrev NoMore : List CToken → List ℕ → Type 0
NoMore front rest = (t : CToken) (mid : List ℕ) → IsToken t → ReadsToken t rest mid → IsLive (front ++ t ∷ []) → (is_opening t ≡ true → open_behind 0 front < 512) → ⊥

record Stops (bytes : List ℕ) (front : List CToken) (rest : List ℕ) : Type 0 where
  read : BeginsText bytes front rest
  none : NoMore front rest

-- Two lists of tokens at the front of the same bytes: they are the same, or one goes on after the other.
data Compared (f g : List CToken) (r q : List ℕ) : Type 0 where
  Same : f ≡ g → r ≡ q → Compared f g r q
  First : (t : CToken) → (more : List CToken) → (mid : List ℕ) → f ≡ g ++ t ∷ more → IsToken t → ReadsToken t q mid → Compared f g r q
  Second : (t : CToken) → (more : List CToken) → (mid : List ℕ) → g ≡ f ++ t ∷ more → IsToken t → ReadsToken t r mid → Compared f g r q

cons-same : (t u : CToken) (f g : List CToken) → t ≡ u → f ≡ g → t ∷ f ≡ u ∷ g
cons-same t u f g h k = cc (h, k)

compared-cons : (t u : CToken) (f g : List CToken) (r q : List ℕ) → t ≡ u → Compared f g r q → Compared (t ∷ f) (u ∷ g) r q
compared-cons t u f g r q h (Same e k) = Same (cons-same t u f g h e) k
compared-cons t u f g r q h (First x more mid e l k) = First x more mid (cons-same t u f (g ++ x ∷ more) h e) l k
compared-cons t u f g r q h (Second x more mid e l k) = Second x more mid (cons-same u t g (f ++ x ∷ more) (sym h) e) l k

compare : (f g : List CToken) → AreTokens f → AreTokens g → (bytes r q : List ℕ) → SpellsTo f bytes r → SpellsTo g bytes q → Compared f g r q
compare [] [] l m bytes r q s v = Same refl (sym s ∙ v)
compare [] (u ∷ g) l m bytes r q s v = Second u g v.0 refl m.0 (subst (λ (x : List ℕ). ReadsToken u x v.0) s v.1)
compare (t ∷ f) [] l m bytes r q s v = First t f s.0 refl l.0 (subst (λ (x : List ℕ). ReadsToken t x s.0) v s.1)
compare (t ∷ f) (u ∷ g) l m bytes r q s v =
    let same = one-token t u l.0 m.0 bytes s.0 v.0 s.1 v.1 in
    let later : SpellsTo g s.0 q = subst (λ (x : List ℕ). SpellsTo g x q) (sym same.1) v.2 in
    compared-cons t u f g r q same.0 (compare f g l.1 m.1 s.0 r q s.2 later)

-- one goes on where the other stops
goes-on : (bytes : List ℕ) (f g : List CToken) (r q mid : List ℕ) (t : CToken) (more : List CToken) → f ≡ g ++ t ∷ more → IsToken t → ReadsToken t q mid → BeginsText bytes f r → Stops bytes g q → ⊥
goes-on bytes f g r q mid t more e l k read s =
    let split : g ++ t ∷ more ≡ (g ++ t ∷ []) ++ more = sym (append_assoc g (t ∷ []) more) in
    let live : IsLive (g ++ t ∷ []) = live-front (g ++ t ∷ []) more (subst IsLive (e ∙ split) read.live) in
    let shallow : IsShallow 0 (g ++ t ∷ more) = subst (IsShallow 0) e read.shallow in
    s.none t mid l k live (λ h. shallow-at 0 g t more shallow h)

record SameStop (f g : List CToken) (r q : List ℕ) : Type 0 where
  front : f ≡ g
  rest : r ≡ q

same-stop : (bytes : List ℕ) (f g : List CToken) (r q : List ℕ) → Stops bytes f r → Stops bytes g q → Compared f g r q → SameStop f g r q
same-stop bytes f g r q s v (Same e k) = record { front = e; rest = k }
same-stop bytes f g r q s v (First t more mid e l k) = absurd (goes-on bytes f g r q mid t more e l k s.read v)
same-stop bytes f g r q s v (Second t more mid e l k) = absurd (goes-on bytes g f q r mid t more e l k v.read s)

one-stop : (bytes : List ℕ) (f g : List CToken) (r q : List ℕ) → Stops bytes f r → Stops bytes g q → SameStop f g r q
one-stop bytes f g r q s v =
    let body : s.read.body ≡ v.read.body = append_cancel_left includes s.read.body v.read.body (sym s.read.begins ∙ v.read.begins) in
    let spelt : SpellsTo g s.read.body q = subst (λ (x : List ℕ). SpellsTo g x q) (sym body) v.read.spelt in
    same-stop bytes f g r q s v (compare f g s.read.lawful v.read.lawful s.read.body r q s.read.spelt spelt)

-- A whole text stops at its end.
spells-end : (ts : List CToken) (bytes : List ℕ) → Spells ts bytes → (rest : List ℕ) × IsGap rest × SpellsTo ts bytes rest
spells-end [] bytes s = (bytes, s, refl)
spells-end (t ∷ ts) bytes s = let w = spells-end ts s.0 s.2 in (w.0, w.1, (s.0, s.1, w.2))

text-live : (ts : List CToken) → IsText ts → IsLive ts
text-live ts l = ([], subst IsText (sym (append-nil ts)) l)

unit-text : (unit : List ItemTree) (bytes : List ℕ) → IsTextOf bytes unit → IsText (unit_tokens unit)
unit-text unit bytes x = (unit, x.lawful, refl)

record WholeStop (bytes : List ℕ) (unit : List ItemTree) : Type 0 where
  rest : List ℕ
  blank : IsGap rest
  stop : Stops bytes (unit_tokens unit) rest

whole-stop : (bytes : List ℕ) (unit : List ItemTree) → IsTextOf bytes unit → IsShallow 0 (unit_tokens unit) → WholeStop bytes unit
whole-stop bytes unit x s =
    let w = spells-end (unit_tokens unit) x.body x.spelt in
    record {
      rest = w.0;
      blank = w.1;
      stop = record {
        read = record { body = x.body; begins = x.begins; spelt = w.2; lawful = are-unit unit x.lawful; live = text-live (unit_tokens unit) (unit-text unit bytes x); shallow = s };
        none = λ t mid l k live h. gap-no_token t l w.0 mid w.1 k;
      };
    }

-- What stands after a gap is what a token is read from.
behind-token : (bytes rest behind : List ℕ) (place : ℕ) → StandsAt bytes rest behind place → (t : CToken) → IsToken t → (mid : List ℕ) → ReadsToken t rest mid → behind ≡ token_bytes t ++ mid
behind-token bytes rest behind place s t l mid k =
    let c = same-front is_gap_byte s.gap behind k.gap (token_bytes t ++ mid) (sym s.cut ∙ k.cut) s.blank k.blank s.stops (token-no-gap t l mid) in
    c.back

-- A bracket is a token that is whole wherever it stands.
bracket-token : (t : CToken) → is_opening t ≡ true → IsToken t
bracket-token (marked m) h = tt
bracket-token (keyword w) h = tt
bracket-token (operator o) h = tt
bracket-token (named n) h = absurd (cc h)
bracket-token (literal n) h = absurd (cc h)
bracket-token (quoted bytes) h = absurd (cc h)

bracket-whole : (t : CToken) → is_opening t ≡ true → (tail : List ℕ) → IsWhole t tail
bracket-whole t h [] = tt
bracket-whole (marked mark.OpenParen) h (b ∷ tail) = refl
bracket-whole (marked mark.OpenBracket) h (b ∷ tail) = refl
bracket-whole (marked mark.OpenBrace) h (b ∷ tail) = refl
bracket-whole _ h (b ∷ tail) = absurd (cc h)

bracket-read : (bytes : List ℕ) (place : ℕ) → (d : IsTooDeep bytes place) → ReadsToken d.bracket d.rest d.tail
bracket-read bytes place d = record {
  gap = d.here.gap;
  blank = d.here.blank;
  cut = d.here.cut ∙ ap (λ x. d.here.gap ++ x) d.spelt;
  whole = bracket-whole d.bracket d.opens d.tail;
}

not-below : (n : ℕ) → n ≡ 512 → n < 512 → ⊥
not-below n h k = grind (arith, h, k)

deep-none : (bytes : List ℕ) (place : ℕ) → (d : IsTooDeep bytes place) → NoMore d.front d.rest
deep-none bytes place d t mid l k live h =
    let same = one-token t d.bracket l (bracket-token d.bracket d.opens) d.rest mid d.tail k (bracket-read bytes place d) in
    not-below (open_behind 0 d.front) d.full (h (ap is_opening same.0 ∙ d.opens))

deep-stop : (bytes : List ℕ) (place : ℕ) → (d : IsTooDeep bytes place) → Stops bytes d.front d.rest
deep-stop bytes place d = record { read = d.read; none = deep-none bytes place d }

no-bytes : (t : CToken) → IsToken t → (mid : List ℕ) → [] ≡ token_bytes t ++ mid → ⊥
no-bytes t l mid h =
    let P : List ℕ → Type 0 = BeginsAs (token_sort t) in
    subst P (sym h) (begins-append (token_sort t) (token_bytes t) mid (begins-token t l))

wrong-none : (front : List CToken) (behind : List ℕ) → IsWrongHere front behind → (t : CToken) → IsToken t → (mid : List ℕ) → behind ≡ token_bytes t ++ mid → IsWhole t mid → IsLive (front ++ t ∷ []) → ⊥
wrong-none front [] w t l mid h k live = no-bytes t l mid h
wrong-none front (b ∷ bs) w t l mid h k live = let x = w t mid (record { lawful = l; cut = h; whole = k }) in x.0 live

stuck-stop : (bytes : List ℕ) (place : ℕ) → (s : IsStuck bytes place) → Stops bytes s.front s.rest
stuck-stop bytes place s = record {
  read = s.read;
  none = λ t mid l k live h. wrong-none s.front s.behind s.wrong t l mid (behind-token bytes s.rest s.behind place s.here t l mid k) k.whole live;
}

-- The place is one.
same-place : (n m a b all : ℕ) → n + a ≡ all → m + b ≡ all → a ≡ b → n ≡ m
same-place n m a b all h k e = omega (arith, h, k, e)

same-behind : (bytes r q a b : List ℕ) (n m : ℕ) → r ≡ q → StandsAt bytes r a n → StandsAt bytes q b m → a ≡ b
same-behind bytes r q a b n m e s v =
    let c = same-front is_gap_byte s.gap a v.gap b (sym s.cut ∙ e ∙ v.cut) s.blank v.blank s.stops v.stops in
    c.back

one-place : (bytes r q a b : List ℕ) (n m : ℕ) → r ≡ q → StandsAt bytes r a n → StandsAt bytes q b m → n ≡ m
one-place bytes r q a b n m e s v = same-place n m (length a) (length b) (length bytes) s.place_is v.place_is (ap length (same-behind bytes r q a b n m e s v))

-- The outcomes, two by two.
whole-deep : (bytes : List ℕ) (unit : List ItemTree) (place : ℕ) → HasOutcome bytes (whole unit) → IsTooDeep bytes place → ⊥
whole-deep bytes unit place x d =
    let w = whole-stop bytes unit x.0 x.1 in
    let same = one-stop bytes (unit_tokens unit) d.front w.rest d.rest w.stop (deep-stop bytes place d) in
    let blank : IsGap d.rest = subst IsGap same.rest w.blank in
    gap-no_token d.bracket (bracket-token d.bracket d.opens) d.rest d.tail blank (bracket-read bytes place d)

gap-behind : (bytes rest behind : List ℕ) (place : ℕ) → IsGap rest → StandsAt bytes rest behind place → behind ≡ []
gap-behind bytes rest [] place blank s = refl
gap-behind bytes rest (b ∷ behind) place blank s =
    let all : list_all is_gap_byte (b ∷ behind) ≡ true = and-right (list_all is_gap_byte s.gap) (list_all is_gap_byte (b ∷ behind)) (sym (list_all-append is_gap_byte s.gap (b ∷ behind)) ∙ ap (list_all is_gap_byte) (sym s.cut) ∙ blank) in
    let first : is_gap_byte b ≡ true = and-left (is_gap_byte b) (list_all is_gap_byte behind) all in
    let stops : is_gap_byte b ≡ false = s.stops in
    absurd (cc (first, stops))

whole-stuck : (bytes : List ℕ) (unit : List ItemTree) (place : ℕ) → HasOutcome bytes (whole unit) → IsStuck bytes place → ⊥
whole-stuck bytes unit place x s =
    let w = whole-stop bytes unit x.0 x.1 in
    let same = one-stop bytes (unit_tokens unit) s.front w.rest s.rest w.stop (stuck-stop bytes place s) in
    let blank : IsGap s.rest = subst IsGap same.rest w.blank in
    let wrong : IsWrongHere s.front [] = subst (IsWrongHere s.front) (gap-behind bytes s.rest s.behind place blank s.here) s.wrong in
    wrong (subst IsText same.front (unit-text unit bytes x.0))

deep-deep : (bytes : List ℕ) (n m : ℕ) → IsTooDeep bytes n → IsTooDeep bytes m → n ≡ m
deep-deep bytes n m d x =
    let same = one-stop bytes d.front x.front d.rest x.rest (deep-stop bytes n d) (deep-stop bytes m x) in
    one-place bytes d.rest x.rest d.behind x.behind n m same.rest d.here x.here

wrong-below : (front : List CToken) (behind : List ℕ) → IsWrongHere front behind → (t : CToken) → IsToken t → (tail : List ℕ) → behind ≡ token_bytes t ++ tail → IsWhole t tail → is_opening t ≡ true → open_behind 0 front < 512
wrong-below front [] w t l tail h k o = absurd (no-bytes t l tail h)
wrong-below front (b ∷ bs) w t l tail h k o = let x = w t tail (record { lawful = l; cut = h; whole = k }) in x.1 o

deep-stuck : (bytes : List ℕ) (n m : ℕ) → IsTooDeep bytes n → IsStuck bytes m → ⊥
deep-stuck bytes n m d s =
    let same = one-stop bytes d.front s.front d.rest s.rest (deep-stop bytes n d) (stuck-stop bytes m s) in
    let behind : s.behind ≡ token_bytes d.bracket ++ d.tail = sym (same-behind bytes d.rest s.rest d.behind s.behind n m same.rest d.here s.here) ∙ d.spelt in
    let below = wrong-below s.front s.behind s.wrong d.bracket (bracket-token d.bracket d.opens) d.tail behind (bracket-whole d.bracket d.opens d.tail) d.opens in
    not-below (open_behind 0 s.front) (ap (open_behind 0) (sym same.front) ∙ d.full) below

stuck-stuck : (bytes : List ℕ) (n m : ℕ) → IsStuck bytes n → IsStuck bytes m → n ≡ m
stuck-stuck bytes n m s v =
    let same = one-stop bytes s.front v.front s.rest v.rest (stuck-stop bytes n s) (stuck-stop bytes m v) in
    one-place bytes s.rest v.rest s.behind v.behind n m same.rest s.here v.here

-- The three lines.
bad-line : (done line bytes : List ℕ) (place : ℕ) → IsBadLine done line bytes place → (more : List ℕ) → bytes ≡ done ++ (line ++ more) → ⊥
bad-line done line bytes place b more h = b.other more (append_cancel_left done b.rest (line ++ more) (sym b.begun ∙ h))

two-lines : (more : List ℕ) → (stddef_line ++ stdint_line) ++ more ≡ stddef_line ++ (stdint_line ++ more)
two-lines more = append_assoc stddef_line stdint_line more

header-text : (bytes body : List ℕ) (place : ℕ) → IsBadHeader bytes place → bytes ≡ includes ++ body → ⊥
header-text bytes body place (inl b) h = bad-line [] stddef_line bytes place b ((stdint_line ++ string_line) ++ body) (h ∙ append_assoc stddef_line (stdint_line ++ string_line) body)
header-text bytes body place (inr (inl b)) h = bad-line stddef_line stdint_line bytes place b (string_line ++ body) (h ∙ append_assoc stddef_line (stdint_line ++ string_line) body ∙ ap (λ x. stddef_line ++ x) (append_assoc stdint_line string_line body))
header-text bytes body place (inr (inr b)) h = bad-line (stddef_line ++ stdint_line) string_line bytes place b body (h ∙ append_assoc stddef_line (stdint_line ++ string_line) body ∙ ap (λ x. stddef_line ++ x) (append_assoc stdint_line string_line body) ∙ sym (two-lines (string_line ++ body)))

header-header : (bytes : List ℕ) (n m : ℕ) → IsBadHeader bytes n → IsBadHeader bytes m → n ≡ m
header-header bytes n m (inl a) (inl b) = a.place_is ∙ sym b.place_is
header-header bytes n m (inl a) (inr (inl b)) = absurd (bad-line [] stddef_line bytes n a b.rest b.begun)
header-header bytes n m (inl a) (inr (inr b)) = absurd (bad-line [] stddef_line bytes n a (stdint_line ++ b.rest) (b.begun ∙ two-lines b.rest))
header-header bytes n m (inr (inl a)) (inl b) = absurd (bad-line [] stddef_line bytes m b a.rest a.begun)
header-header bytes n m (inr (inl a)) (inr (inl b)) = a.place_is ∙ sym b.place_is
header-header bytes n m (inr (inl a)) (inr (inr b)) = absurd (bad-line stddef_line stdint_line bytes n a b.rest (b.begun ∙ two-lines b.rest))
header-header bytes n m (inr (inr a)) (inl b) = absurd (bad-line [] stddef_line bytes m b (stdint_line ++ a.rest) (a.begun ∙ two-lines a.rest))
header-header bytes n m (inr (inr a)) (inr (inl b)) = absurd (bad-line stddef_line stdint_line bytes m b a.rest (a.begun ∙ two-lines a.rest))
header-header bytes n m (inr (inr a)) (inr (inr b)) = a.place_is ∙ sym b.place_is

not-not : (bytes : List ℕ) (n m : ℕ) → HasOutcome bytes (not_c n) → HasOutcome bytes (not_c m) → n ≡ m
not-not bytes n m (inl a) (inl b) = header-header bytes n m a b
not-not bytes n m (inl a) (inr s) = absurd (header-text bytes s.read.body n a s.read.begins)
not-not bytes n m (inr s) (inl a) = absurd (header-text bytes s.read.body m a s.read.begins)
not-not bytes n m (inr s) (inr v) = stuck-stuck bytes n m s v

whole-not : (bytes : List ℕ) (unit : List ItemTree) (n : ℕ) → HasOutcome bytes (whole unit) → HasOutcome bytes (not_c n) → ⊥
whole-not bytes unit n x (inl a) = header-text bytes x.0.body n a x.0.begins
whole-not bytes unit n x (inr s) = whole-stuck bytes unit n x s

deep-not : (bytes : List ℕ) (n m : ℕ) → IsTooDeep bytes n → HasOutcome bytes (not_c m) → ⊥
deep-not bytes n m d (inl a) = header-text bytes d.read.body m a d.read.begins
deep-not bytes n m d (inr s) = deep-stuck bytes n m d s

-- Bytes have one outcome at most.
pub one-outcome : (bytes : List ℕ) (a b : Outcome) → HasOutcome bytes a → HasOutcome bytes b → a ≡ b
one-outcome bytes (whole u) (whole v) x y = ap whole (one-text bytes u v x.0 y.0)
one-outcome bytes (whole u) (too_deep n) x y = absurd (whole-deep bytes u n x y)
one-outcome bytes (whole u) (not_c n) x y = absurd (whole-not bytes u n x y)
one-outcome bytes (too_deep n) (whole u) x y = absurd (whole-deep bytes u n y x)
one-outcome bytes (too_deep n) (too_deep m) x y = ap too_deep (deep-deep bytes n m x y)
one-outcome bytes (too_deep n) (not_c m) x y = absurd (deep-not bytes n m x y)
one-outcome bytes (not_c n) (whole u) x y = absurd (whole-not bytes u n y x)
one-outcome bytes (not_c n) (too_deep m) x y = absurd (deep-not bytes m n y x)
one-outcome bytes (not_c n) (not_c m) x y = ap not_c (not-not bytes n m x y)
