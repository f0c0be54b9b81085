-- The machine without limits accepts exactly the files, and refuses every other list at its first wrong token.
use Rattle.std.proofs.Common.{◌≡◌, ◌∙◌, ◌-◌, ap, sym, subst, ℕ, suc, Bool, true, false, Option, None, Some, List, [], ◌∷◌, ◌++◌, length, refl, if◌then◌else◌, append_assoc, append-nil}
use Rattle.wf_text.specs.declared.rules.Rule.{Rule}
use Rattle.wf_text.specs.declared.rules.Rule.TheVariants.{S5}
use Rattle.wf_parse_grammar.specs.declared.tokens.Kind.{Kind}
use Rattle.wf_parse_grammar.specs.declared.tokens.Token.{Token}
use Rattle.wf_parse_grammar.specs.Grammar.{file_before}
use Rattle.wf_parse_grammar.specs.declared.symbols.Sym.{Sym}
use Rattle.wf_parse_grammar.specs.declared.symbols.Sym.TheVariants as syms
use Rattle.wf_parse_grammar.specs.Machine.{Move, Take, Begin, Enter, Pass, Stop, move, may_end, Outcome, Accepted, Refused, run, step, after, ends}
use Rattle.wf_parse_grammar.specs.Files.{IsFile, IsLive}
use Rattle.wf_parse_grammar.specs.Words.{Words}
use Rattle.wf_parse_grammar.specs.Feeding.{fed, feed, feeds, go_on}
use Rattle.wf_parse_grammar.proofs.Completes.{absent}
use Rattle.wf_parse_grammar.proofs.Live.{feeds-words}
use Rattle.wf_parse_grammar.proofs.ForwardMore.{fw-file}

-- What one token does to a stack, and the run with it.
pub data Step (k : List Sym) (t : Kind) (left : ℕ) (next : ℕ → List Sym → Outcome) (o : Outcome) : Type 0 where
  Goes : (room : ℕ) → (wanted : List Sym) → feed k t ≡ Some wanted → o ≡ next room wanted → Step k t left next o
  Stuck : (r : Rule) → feed k t ≡ None → o ≡ Refused r left → Step k t left next o

step-after : (s : Sym) (k : List Sym) (t : Kind) (w : Move) (room left : ℕ) (next : ℕ → List Sym → Outcome)
    → feed (s ∷ k) t ≡ fed w k (feed k t) → Step k t left next (step false room k t left next)
    → Step (s ∷ k) t left next (after false room w (s ∷ k) k t left next (step false room k t left next))
step-after s k t (Take xs) room left next e below = Goes room (xs ++ k) e refl
step-after s k t (Begin xs) room left next e below = Goes (room - 1) (xs ++ k) e refl
step-after s k t (Enter xs) room left next e below = Goes 4096 (xs ++ k) e refl
step-after s k t Pass room left next e (Goes r wanted f g) = Goes r wanted (e ∙ f) g
step-after s k t Pass room left next e (Stuck r f g) = Stuck r (e ∙ f) g
step-after s k t (Stop r) room left next e below = Stuck r e refl

steps : (k : List Sym) (t : Kind) (room left : ℕ) (next : ℕ → List Sym → Outcome) → Step k t left next (step false room k t left next)
steps [] t room left next = Stuck _ refl refl
steps (s ∷ k) t room left next = step-after s k t (move s t) room left next refl (steps k t room left next)

-- Where a run without limits ends.
abbrev pub Halts : List Sym → List Token → Type 0
Halts wanted [] = (r : Rule) × (n : ℕ) × (ends wanted ≡ Refused r n)
Halts wanted (t ∷ back) = feed wanted t.kind ≡ None

pub record Wrong (tokens : List Token) (k : List Sym) (left : ℕ) : Type 0 where
  pub front : List Token
  pub back : List Token
  pub wanted : List Sym
  pub parts : tokens ≡ front ++ back
  pub place : left ≡ length back
  pub read : feeds front k ≡ Some wanted
  pub halts : Halts wanted back

pub record Right (tokens : List Token) (k : List Sym) : Type 0 where
  pub wanted : List Sym
  pub read : feeds tokens k ≡ Some wanted
  pub ends' : ends wanted ≡ Accepted

abbrev pub Found : List Token → List Sym → Outcome → Type 0
Found tokens k Accepted = Right tokens k
Found tokens k (Refused r left) = Wrong tokens k left

pub ends-zero : (k : List Sym) (r : Rule) (n : ℕ) → ends k ≡ Refused r n → n ≡ 0
ends-zero [] r n e = absurd (cc e)
ends-zero (s ∷ k) r n e = ends-on (may_end s) k r n (ends-zero k) e
  where
    ends-on : (b : Bool) (k : List Sym) (r : Rule) (n : ℕ) → ((r : Rule) (n : ℕ) → ends k ≡ Refused r n → n ≡ 0) → (if b then ends k else Refused S5 0) ≡ Refused r n → n ≡ 0
    ends-on true k r n f e = f r n e
    ends-on false k r n f e = cc e

found-end : (k : List Sym) (o : Outcome) → ends k ≡ o → Found [] k o
found-end k Accepted e = record { wanted = k; read = refl; ends' = e }
found-end k (Refused r n) e = record { front = []; back = []; wanted = k; parts = refl; place = ends-zero k r n e; read = refl; halts = (r, n, e) }

found-more : (t : Token) (ts : List Token) (k wanted : List Sym) (o : Outcome) → feed k t.kind ≡ Some wanted → Found ts wanted o → Found (t ∷ ts) k o
found-more t ts k wanted Accepted e f = record { wanted = f.wanted; read = ap (λ x. go_on x (λ w. feeds ts w)) e ∙ f.read; ends' = f.ends' }
found-more t ts k wanted (Refused r n) e f = record {
  front = t ∷ f.front;
  back = f.back;
  wanted = f.wanted;
  parts = ap (λ x. t ∷ x) f.parts;
  place = f.place;
  read = ap (λ x. go_on x (λ w. feeds f.front w)) e ∙ f.read;
  halts = f.halts;
}

found-step : (t : Token) (ts : List Token) (k : List Sym) (o : Outcome) → ((room : ℕ) (wanted : List Sym) → Found ts wanted (run false room ts wanted))
    → Step k t.kind (suc (length ts)) (λ room wanted. run false room ts wanted) o → Found (t ∷ ts) k o
found-step t ts k o ih (Goes room wanted e g) =
    let P : Outcome → Type 0 = λ x. Found (t ∷ ts) k x in
    subst P (sym g) (found-more t ts k wanted (run false room ts wanted) e (ih room wanted))
found-step t ts k o ih (Stuck r e g) =
    let P : Outcome → Type 0 = λ x. Found (t ∷ ts) k x in
    subst P (sym g) (record { front = []; back = t ∷ ts; wanted = k; parts = refl; place = refl; read = refl; halts = e })

pub found : (tokens : List Token) (room : ℕ) (k : List Sym) → Found tokens k (run false room tokens k)
found [] room k = found-end k (ends k) refl
found (t ∷ ts) room k = found-step t ts k (run false room (t ∷ ts) k) (λ r w. found ts r w) (steps k t.kind room (suc (length ts)) (λ r w. run false r ts w))

-- A stack that may end is completed by no token.
ends-words : (k : List Sym) → ends k ≡ Accepted → Words k [] []
ends-words [] e = refl
ends-words (s ∷ k) e = ends-if (may_end s) s k refl (ends-words k) e
  where
    ends-if : (b : Bool) (s : Sym) (k : List Sym) → may_end s ≡ b → (ends k ≡ Accepted → Words k [] []) → (if b then ends k else Refused S5 0) ≡ Accepted → Words (s ∷ k) [] []
    ends-if true s k h f e = ([], absent s h [], f e)
    ends-if false s k h f e = absurd (cc e)

-- The tokens of a file, from the words of the first symbol.
pub file-words : (ts : List Token) → Words (syms.File ∷ []) ts [] → IsFile ts
file-words ts d = (d.1.0, d.1.1 ∙ ap (file_before d.1.0) d.2)

nothing_behind : (front : List Token) → front ++ [] ≡ front
nothing_behind front = append-nil front

-- What is accepted is a file, and every file is accepted.
pub accepted-file : (tokens : List Token) → Right tokens (syms.File ∷ []) → IsFile tokens
accepted-file tokens r =
    let P : List Token → Type 0 = λ ts. Words (syms.File ∷ []) ts [] in
    file-words tokens (subst P (nothing_behind tokens) (feeds-words tokens (syms.File ∷ []) r.wanted r.read [] [] (ends-words r.wanted r.ends')))

on-option : (o : Option (List Sym)) (front back : List Token) (k : List Sym)
    → ((w : List Sym) → feeds front w ≡ Some k → feeds (front ++ back) w ≡ feeds back k)
    → go_on o (λ w. feeds front w) ≡ Some k → go_on o (λ w. feeds (front ++ back) w) ≡ feeds back k
on-option None front back k f e = absurd (cc e)
on-option (Some w) front back k f e = f w e

pub feeds-append : (front back : List Token) (j k : List Sym) → feeds front j ≡ Some k → feeds (front ++ back) j ≡ feeds back k
feeds-append [] back j k e = ap (feeds back) (same j k e)
  where
    same : (j k : List Sym) → Some j ≡ Some k → j ≡ k
    same j k e = cc e
feeds-append (t ∷ front) back j k e = on-option (feed j t.kind) front back k (λ w h. feeds-append front back w k h) e

-- With a token that can't be read, or at an end that isn't wanted, the tokens are no longer those of a file.
pub dead-token : (front : List Token) (t : Token) (wanted : List Sym) → feeds front (syms.File ∷ []) ≡ Some wanted → feed wanted t.kind ≡ None → IsLive (front ++ t ∷ []) → ⊥
dead-token front t wanted read stuck l =
    let whole = (front ++ t ∷ []) ++ l.0 in
    let read-all : feeds whole (syms.File ∷ []) ≡ Some (syms.File ∷ []) = ap (λ ts. feeds ts (syms.File ∷ [])) l.1.1 ∙ fw-file l.1.0 [] [] in
    let split : feeds whole (syms.File ∷ []) ≡ feeds (t ∷ l.0) wanted = ap (λ ts. feeds ts (syms.File ∷ [])) (append_assoc front (t ∷ []) l.0) ∙ feeds-append front (t ∷ l.0) (syms.File ∷ []) wanted read in
    let none : feeds (t ∷ l.0) wanted ≡ None = ap (λ o. go_on o (λ w. feeds l.0 w)) stuck in
    absurd (cc (read-all, split, none))

pub dead-end : (front : List Token) (wanted : List Sym) (r : Rule) (n : ℕ) → feeds front (syms.File ∷ []) ≡ Some wanted → ends wanted ≡ Refused r n → IsFile front → ⊥
dead-end front wanted r n read stuck l =
    let read-all : feeds front (syms.File ∷ []) ≡ Some (syms.File ∷ []) = ap (λ ts. feeds ts (syms.File ∷ [])) l.1 ∙ fw-file l.0 [] [] in
    let same : wanted ≡ syms.File ∷ [] = cc (read-all, read) in
    let over : ends wanted ≡ Accepted = ap ends same in
    absurd (cc (over, stuck))
