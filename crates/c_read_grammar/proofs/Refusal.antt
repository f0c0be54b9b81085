-- A token that the machine can't read is the first that no text has there, and a list of tokens has one tree at most.
use Rattle.std.proofs.Common.{◌≡◌, ◌∙◌, ap, Option, None, Some, List, [], ◌∷◌, ◌++◌, append_assoc}
use Rattle.c_text.specs.CSpelling.{CToken}
use Rattle.c_text.specs.CGrammar.{IsUnit, unit_tokens}
use Rattle.c_text.specs.CTree.{ItemTree}
use Rattle.c_read_grammar.specs.Values.{Val, a_unit}
use Rattle.c_read_grammar.specs.Feeding.{State, feed, feeds, go_on, ends, reads, start}
use Rattle.c_read_grammar.specs.Texts.{IsText, IsLive, AreTokens}
use Rattle.c_read_grammar.proofs.ReadsItems.{reads-unit}
use Rattle.c_read_grammar.proofs.Live.{read-text}

same-state : (a b : State) → Some a ≡ Some b → a ≡ b
same-state a b h = cc h

append-option : (o : Option State) (front back : List CToken) (last : State)
    → ((next : State) → feeds front next ≡ Some last → feeds (front ++ back) next ≡ feeds back last)
    → go_on o (λ next. feeds front next) ≡ Some last → go_on o (λ next. feeds (front ++ back) next) ≡ feeds back last
append-option None front back last f h = absurd (cc h)
append-option (Some next) front back last f h = f next h

-- Tokens after others are read from where those end.
pub feeds-append : (front back : List CToken) (first last : State) → feeds front first ≡ Some last → feeds (front ++ back) first ≡ feeds back last
feeds-append [] back first last h = ap (feeds back) (same-state first last h)
feeds-append (t ∷ front) back first last h = append-option (feed first.wanted first.vals t) front back last (λ next q. feeds-append front back next last q) h

-- With the refused token the tokens are no longer live.
pub dead-token : (front : List CToken) (t : CToken) (last : State) → feeds front start ≡ Some last → feed last.wanted last.vals t ≡ None → IsLive (front ++ t ∷ []) → ⊥
dead-token front t last read stuck l =
    let whole = (front ++ t ∷ []) ++ l.0 in
    let all : reads whole start ≡ Some (a_unit l.1.0 ∷ []) = ap (λ ts. reads ts start) l.1.2 ∙ reads-unit l.1.0 l.1.1 in
    let split : feeds whole start ≡ feeds (t ∷ l.0) last = ap (λ ts. feeds ts start) (append_assoc front (t ∷ []) l.0) ∙ feeds-append front (t ∷ l.0) start last read in
    let none : feeds (t ∷ l.0) last ≡ None = ap (λ o. go_on o (λ next. feeds l.0 next)) stuck in
    let over : reads whole start ≡ None = ap (λ o. go_on o (λ s. ends s.wanted s.vals)) (split ∙ none) in
    absurd (cc (all, over))

-- Where more is wanted, the tokens are no text.
pub dead-end : (front : List CToken) (last : State) → feeds front start ≡ Some last → ends last.wanted last.vals ≡ None → IsText front → ⊥
dead-end front last read stuck l =
    let all : reads front start ≡ Some (a_unit l.0 ∷ []) = ap (λ ts. reads ts start) l.2 ∙ reads-unit l.0 l.1 in
    let over : reads front start ≡ None = ap (λ o. go_on o (λ s. ends s.wanted s.vals)) read ∙ stuck in
    absurd (cc (all, over))

-- What is read to its end has been read to the tree of a text.
pub read-unit : (ts : List CToken) (made : List Val) → AreTokens ts → reads ts start ≡ Some made → (unit : List ItemTree) × IsUnit unit × (ts ≡ unit_tokens unit) × (made ≡ a_unit unit ∷ [])
read-unit ts made l h =
    let w = read-text ts made l h in
    let all : reads ts start ≡ Some (a_unit w.0 ∷ []) = ap (λ x. reads x start) w.2 ∙ reads-unit w.0 w.1 in
    (w.0, w.1, w.2, cc (all, h))

-- A list of tokens has one tree at most.
pub one-tree : (a b : List ItemTree) → IsUnit a → IsUnit b → unit_tokens a ≡ unit_tokens b → a ≡ b
one-tree a b la lb h =
    let x : reads (unit_tokens a) start ≡ Some (a_unit a ∷ []) = reads-unit a la in
    let y : reads (unit_tokens a) start ≡ Some (a_unit b ∷ []) = ap (λ ts. reads ts start) h ∙ reads-unit b lb in
    cc (x, y)
