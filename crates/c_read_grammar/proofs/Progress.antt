-- A reader on its way: how it begins, goes on and ends.
use Rattle.std.proofs.Common.{◌≡◌, ◌∙◌, ap, sym, subst, ℕ, ◌<◌, true, None, Some, List, [], ◌∷◌, ◌++◌, refl, inr}
use Rattle.c_text.specs.CSpelling.{CToken, IsGap, ReadsToken, Spells, includes}
use Rattle.c_text.specs.CTree.{ItemTree}
use Rattle.c_text.specs.CGrammar.{unit_tokens}
use Rattle.c_read_grammar.specs.Values.{Val, a_unit}
use Rattle.c_read_grammar.specs.Feeding.{State, feed, feeds, go_on, ends, reads, start}
use Rattle.c_read_grammar.specs.FirstToken.{Stands}
use Rattle.c_read_grammar.specs.Texts.{IsLive, IsToken, AreTokens, is_opening, open_after, open_behind}
use Rattle.c_read_grammar.specs.Outcomes.{SpellsTo, IsShallow, BeginsText, StandsAt, whole, too_deep, not_c, HasOutcome}
use Rattle.c_read_grammar.specs.Progress.{ReadSoFar}
use Rattle.c_read_grammar.proofs.Live.{live}
use Rattle.c_read_grammar.proofs.Refusal.{feeds-append, dead-token, dead-end, read-unit}
use Rattle.c_read_grammar.proofs.OneSpelling.{one-token}

-- No token so far.
pub begins-reading : (body : List ℕ) → ReadSoFar body body start 0
begins-reading body = record { front = []; spelt = refl; lawful = tt; read = refl; shallow = tt; depth = refl }

spells-on : (front : List CToken) (bytes rest mid : List ℕ) (t : CToken) → SpellsTo front bytes rest → ReadsToken t rest mid → SpellsTo (front ++ t ∷ []) bytes mid
spells-on [] bytes rest mid t s k = (mid, subst (λ (x : List ℕ). ReadsToken t x mid) (sym s) k, refl)
spells-on (x ∷ front) bytes rest mid t s k = (s.0, s.1, spells-on front s.0 rest mid t s.2 k)

are-on : (front : List CToken) (t : CToken) → AreTokens front → IsToken t → AreTokens (front ++ t ∷ [])
are-on [] t l k = (k, tt)
are-on (x ∷ front) t l k = (l.0, are-on front t l.1 k)

shallow-on : (n : ℕ) (front : List CToken) (t : CToken) → IsShallow n front → (is_opening t ≡ true → open_behind n front < 512) → IsShallow n (front ++ t ∷ [])
shallow-on n [] t s k = (k, tt)
shallow-on n (x ∷ front) t s k = (s.0, shallow-on (open_after n x) front t s.1 k)

depth-on : (n : ℕ) (front : List CToken) (t : CToken) → open_behind n (front ++ t ∷ []) ≡ open_after (open_behind n front) t
depth-on n [] t = refl
depth-on n (x ∷ front) t = depth-on (open_after n x) front t

read-on : (front : List CToken) (t : CToken) (last next : State) → feeds front start ≡ Some last → feed last.wanted last.vals t ≡ Some next → feeds (front ++ t ∷ []) start ≡ Some next
read-on front t last next h k = feeds-append front (t ∷ []) start last h ∙ ap (λ o. go_on o (λ s. feeds [] s)) k

-- One more token.
pub goes-on : (body rest mid : List ℕ) (state next : State) (n : ℕ) (t : CToken) → ReadSoFar body rest state n → IsToken t → ReadsToken t rest mid
    → feed state.wanted state.vals t ≡ Some next → (is_opening t ≡ true → n < 512) → ReadSoFar body mid next (open_after n t)
goes-on body rest mid state next n t s l k h d = record {
  front = s.front ++ t ∷ [];
  spelt = spells-on s.front body rest mid t s.spelt k;
  lawful = are-on s.front t s.lawful l;
  read = read-on s.front t state next s.read h;
  shallow = shallow-on 0 s.front t s.shallow (λ o. subst (λ (x : ℕ). x < 512) (sym s.depth) (d o));
  depth = depth-on 0 s.front t ∙ ap (λ x. open_after x t) s.depth;
}

-- What was read so far begins a text.
pub begins-text : (bytes body rest : List ℕ) (state : State) (n : ℕ) → bytes ≡ includes ++ body → (s : ReadSoFar body rest state n) → BeginsText bytes s.front rest
begins-text bytes body rest state n h s = record { body = body; begins = h; spelt = s.spelt; lawful = s.lawful; live = live s.front state s.lawful s.read; shallow = s.shallow }

spells-whole : (front : List CToken) (bytes rest : List ℕ) → SpellsTo front bytes rest → IsGap rest → Spells front bytes
spells-whole [] bytes rest s blank = subst IsGap (sym s) blank
spells-whole (t ∷ front) bytes rest s blank = (s.0, s.1, spells-whole front s.0 rest s.2 blank)

-- The end of a text: nothing but a gap is left, and nothing is wanted.
pub ends-whole : (bytes body rest : List ℕ) (state : State) (n : ℕ) (made : List Val) → bytes ≡ includes ++ body → ReadSoFar body rest state n → IsGap rest → ends state.wanted state.vals ≡ Some made
    → (unit : List ItemTree) × (made ≡ a_unit unit ∷ []) × HasOutcome bytes (whole unit)
ends-whole bytes body rest state n made h s blank k =
    let all : reads s.front start ≡ Some made = ap (λ o. go_on o (λ x. ends x.wanted x.vals)) s.read ∙ k in
    let w = read-unit s.front made s.lawful all in
    let spelt : Spells (unit_tokens w.0) body = subst (λ (x : List CToken). Spells x body) w.2 (spells-whole s.front body rest s.spelt blank) in
    (w.0, w.3, (record { lawful = w.1; body = body; begins = h; spelt = spelt }, subst (IsShallow 0) w.2 s.shallow))

-- The end of the bytes, where more is wanted.
pub ends-early : (bytes body rest : List ℕ) (state : State) (n place : ℕ) → bytes ≡ includes ++ body → ReadSoFar body rest state n → StandsAt bytes rest [] place → ends state.wanted state.vals ≡ None
    → HasOutcome bytes (not_c place)
ends-early bytes body rest state n place h s here k = inr (record {
  front = s.front;
  rest = rest;
  behind = [];
  read = begins-text bytes body rest state n h s;
  here = here;
  wrong = dead-end s.front state s.read k;
})

at-once : (t : CToken) (tail : List ℕ) (bytes : List ℕ) → Stands t bytes tail → ReadsToken t bytes tail
at-once t tail bytes s = record { gap = []; blank = refl; cut = s.cut; whole = s.whole }

-- The token that stands here is read.
pub goes-on-here : (bytes body rest behind tail : List ℕ) (state next : State) (n place : ℕ) (t : CToken) → ReadSoFar body rest state n → StandsAt bytes rest behind place → Stands t behind tail
    → feed state.wanted state.vals t ≡ Some next → (is_opening t ≡ true → n < 512) → ReadSoFar body tail next (open_after n t)
goes-on-here bytes body rest behind tail state next n place t s here k h d =
    goes-on body rest tail state next n t s k.lawful (record { gap = here.gap; blank = here.blank; cut = here.cut ∙ ap (λ x. here.gap ++ x) k.cut; whole = k.whole }) h d

-- A token stands here that the machine doesn't read.
pub stops-at : (bytes body rest : List ℕ) (state : State) (n place b : ℕ) (bs : List ℕ) (t : CToken) (tail : List ℕ) → bytes ≡ includes ++ body → ReadSoFar body rest state n → StandsAt bytes rest (b ∷ bs) place
    → Stands t (b ∷ bs) tail → feed state.wanted state.vals t ≡ None → (is_opening t ≡ true → n < 512) → HasOutcome bytes (not_c place)
stops-at bytes body rest state n place b bs t tail h s here stands k d = inr (record {
  front = s.front;
  rest = rest;
  behind = b ∷ bs;
  read = begins-text bytes body rest state n h s;
  here = here;
  wrong = λ u q x.
      let same = one-token t u stands.lawful x.lawful (b ∷ bs) tail q (at-once t tail (b ∷ bs) stands) (at-once u q (b ∷ bs) x) in (
        subst (λ (y : CToken). IsLive (s.front ++ y ∷ []) → ⊥) same.0 (dead-token s.front t state s.read k),
        λ o. subst (λ (y : ℕ). y < 512) (sym s.depth) (d (ap is_opening same.0 ∙ o)),
      );
})

-- No token stands here.
pub stops-bare : (bytes body rest : List ℕ) (state : State) (n place b : ℕ) (bs : List ℕ) → bytes ≡ includes ++ body → ReadSoFar body rest state n → StandsAt bytes rest (b ∷ bs) place
    → ((t : CToken) (tail : List ℕ) → Stands t (b ∷ bs) tail → ⊥) → HasOutcome bytes (not_c place)
stops-bare bytes body rest state n place b bs h s here none = inr (record {
  front = s.front;
  rest = rest;
  behind = b ∷ bs;
  read = begins-text bytes body rest state n h s;
  here = here;
  wrong = λ u q x. absurd (none u q x);
})

-- A bracket stands here that is one too many.
pub stops-deep : (bytes body rest behind : List ℕ) (state : State) (place : ℕ) (t : CToken) (tail : List ℕ) → bytes ≡ includes ++ body → ReadSoFar body rest state 512 → StandsAt bytes rest behind place
    → is_opening t ≡ true → Stands t behind tail → HasOutcome bytes (too_deep place)
stops-deep bytes body rest behind state place t tail h s here o stands = record {
  front = s.front;
  rest = rest;
  behind = behind;
  read = begins-text bytes body rest state 512 h s;
  here = here;
  bracket = t;
  tail = tail;
  opens = o;
  spelt = stands.cut;
  full = s.depth;
}
