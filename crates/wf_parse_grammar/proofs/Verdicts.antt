-- A list of tokens has one verdict, that of the run.
use Rattle.std.proofs.Common.{◌≡◌, ◌∙◌, ◌+◌, ◌≤◌, ◌<◌, ap, sym, subst, ℕ, suc, Bool, true, false, List, [], ◌∷◌, ◌++◌, length, refl, arith, append_assoc, append-nil}
use Rattle.wf_text.specs.declared.rules.Rule.{Rule}
use Rattle.wf_text.specs.declared.rules.Rule.TheVariants.{S5, S6, L4, L5}
use Rattle.wf_ast.specs.ParsedTree.{DeclTree}
use Rattle.wf_parse_grammar.specs.declared.tokens.Kind.{Kind}
use Rattle.wf_parse_grammar.specs.declared.tokens.Kind.TheVariants as kinds
use Rattle.wf_parse_grammar.specs.declared.tokens.Token.{Token}
use Rattle.wf_parse_grammar.specs.Files.{IsFile, IsLive}
use Rattle.wf_parse_grammar.specs.Brackets.{is_opening, opened, closed}
use Rattle.wf_parse_grammar.specs.Statements.{is_break, begins_statement, counted, break_from, count_from, ends_in_break, begun}
use Rattle.wf_parse_grammar.specs.Refusals.{IsWithin, IsAccepted, Reason, IsRefused}
use Rattle.wf_parse_grammar.specs.declared.symbols.Sym.TheVariants as syms
use Rattle.wf_parse_grammar.specs.declared.symbols.Want.TheVariants.{Read}
use Rattle.wf_parse_grammar.specs.Meaning.{file_trees}
use Rattle.wf_parse_grammar.specs.Machine as m
use Rattle.wf_parse_grammar.specs.Building.{Ending, Built, Refused, run}
use Rattle.wf_parse_grammar.specs.Values.{Made}
use Rattle.wf_parse_grammar.specs.Erasure.{outcome}
use Rattle.wf_parse_grammar.proofs.Erasing.{same-run}
use Rattle.wf_parse_grammar.proofs.MakesFirst.{made}
use Rattle.wf_parse_grammar.proofs.Building.{one-meaning, built-file}
use Rattle.wf_parse_grammar.proofs.RefusalLaws.{run-accepted, run-refused}

-- One token more.
count-more : (b : Bool) (n : ℕ) (front : List Token) (t : Token) → count_from b n (front ++ t ∷ []) ≡ counted (break_from b front) (count_from b n front) t.kind
count-more b n [] t = refl
count-more b n (u ∷ front) t = count-more (is_break u.kind) (counted b n u.kind) front t

count-begins : (b : Bool) (n : ℕ) (t : Kind) → b ≡ true → begins_statement t ≡ true → counted b n t ≡ suc n
count-begins true n (kinds.Name x) e h = refl
count-begins true n kinds.This e h = refl
count-begins true n kinds.Args e h = refl
count-begins true n kinds.Var e h = refl
count-begins true n kinds.If e h = refl
count-begins true n kinds.While e h = refl
count-begins true n kinds.Break e h = refl
count-begins true n kinds.Continue e h = refl
count-begins true n kinds.Return e h = refl
count-begins true n kinds.Yield e h = refl
count-begins true n kinds.Assert e h = refl
count-begins true n _ e h = absurd (cc h)
count-begins false n t e h = absurd (cc e)

-- A list in which these tokens stand after the front is not within the limits, or no file begins so.
broken : (r : Rule) (front back : List Token) (t : Token) → Reason r front (t ∷ back) → IsLive (front ++ t ∷ []) → (whole mid : List Token) → whole ≡ front ++ t ∷ mid → IsWithin whole → ⊥
broken S5 front back t h l whole mid e w = h.0 l
broken S6 front back t h l whole mid e w = h.0 l
broken L4 front back t h l whole mid e w =
    let few : opened front < 48 + closed front = w.shallow front t mid e h.1 in
    let all : opened front ≡ 48 + closed front = h.2 in
    omega (arith, few, all)
broken L5 front back t h l whole mid e w =
    let few : begun (front ++ t ∷ []) ≤ 4096 = w.short (front ++ t ∷ []) mid (e ∙ sym (append_assoc front (t ∷ []) mid)) in
    let more : begun (front ++ t ∷ []) ≡ suc (begun front) = count-more false 0 front t ∙ count-begins (ends_in_break front) (begun front) t.kind h.1 h.2 in
    let all : begun front ≡ 4096 = h.3 in
    omega (arith, few, more, all)
broken _ front back t h l whole mid e w = h

-- Accepted, it isn't refused.
file-live : (front : List Token) (t : Token) (back : List Token) → IsFile (front ++ t ∷ back) → IsLive (front ++ t ∷ [])
file-live front t back f = let P : List Token → Type 0 = λ ts. IsFile ts in (back, subst P (sym (append_assoc front (t ∷ []) back)) f)

end-wrong : (r : Rule) (front : List Token) → Reason r front [] → IsFile front → ⊥
end-wrong S5 front h f = h.0 f
end-wrong S6 front h f = h.0 f
end-wrong L4 front h f = h
end-wrong L5 front h f = h
end-wrong _ front h f = h

not-both : (tokens front back : List Token) (r : Rule) → tokens ≡ front ++ back → IsFile tokens → IsWithin tokens → Reason r front back → ⊥
not-both tokens front [] r e f w h =
    let P : List Token → Type 0 = λ ts. IsFile ts in
    end-wrong r front h (subst P (e ∙ append-nil front) f)
not-both tokens front (t ∷ back) r e f w h =
    let P : List Token → Type 0 = λ ts. IsFile ts in
    broken r front back t h (file-live front t back (subst P e f)) tokens back e w

pub accepted-refused : (tokens : List Token) (trees : List DeclTree) (r : Rule) (left : ℕ) → IsAccepted tokens trees → IsRefused tokens r left → ⊥
accepted-refused tokens trees r left a h = not-both tokens h.front h.back r h.parts (a.file, a.text) a.within h.reason

pub accepted-once : (tokens : List Token) (trees others : List DeclTree) → IsAccepted tokens trees → IsAccepted tokens others → trees ≡ others
accepted-once tokens trees others a b = a.means ∙ one-meaning a.file b.file (sym a.text ∙ b.text) ∙ sym b.means

-- Refused twice, it is refused at one place.
pub data Splits (front back front' back' : List Token) : Type 0 where
  Same : front ≡ front' → back ≡ back' → Splits front back front' back'
  Shorter : (t : Token) (mid : List Token) → back ≡ t ∷ (mid ++ back') → front' ≡ front ++ t ∷ mid → Splits front back front' back'
  Longer : (t : Token) (mid : List Token) → back' ≡ t ∷ (mid ++ back) → front ≡ front' ++ t ∷ mid → Splits front back front' back'

splits-more : (t : Token) (front back front' back' : List Token) → Splits front back front' back' → Splits (t ∷ front) back (t ∷ front') back'
splits-more t front back front' back' (Same e f) = Same (ap (λ ts. t ∷ ts) e) f
splits-more t front back front' back' (Shorter u mid e f) = Shorter u mid e (ap (λ ts. t ∷ ts) f)
splits-more t front back front' back' (Longer u mid e f) = Longer u mid e (ap (λ ts. t ∷ ts) f)

same-head : (t u : Token) (ts us : List Token) → t ∷ ts ≡ u ∷ us → t ≡ u
same-head t u ts us e = cc e

same-tail : (t u : Token) (ts us : List Token) → t ∷ ts ≡ u ∷ us → ts ≡ us
same-tail t u ts us e = cc e

splits : (front back front' back' : List Token) → front ++ back ≡ front' ++ back' → Splits front back front' back'
splits [] back [] back' e = Same refl e
splits [] back (u ∷ front') back' e = Shorter u front' e refl
splits (t ∷ front) back [] back' e = Longer t front (sym e) refl
splits (t ∷ front) back (u ∷ front') back' e =
    let P : Token → Type 0 = λ v. Splits (t ∷ front) back (v ∷ front') back' in
    subst P (same-head t u (front ++ back) (front' ++ back') e) (splits-more t front back front' back' (splits front back front' back' (same-tail t u (front ++ back) (front' ++ back') e)))

front-lives : (front : List Token) (t : Token) (mid whole : List Token) → whole ≡ front ++ t ∷ mid → IsLive whole → IsLive (front ++ t ∷ [])
front-lives front t mid whole e l =
    let P : List Token → Type 0 = λ ts. IsFile ts in
    (mid ++ l.0, subst P (ap (λ ts. ts ++ l.0) e ∙ append_assoc front (t ∷ mid) l.0 ∙ sym (append_assoc front (t ∷ []) (mid ++ l.0))) l.1)

not-earlier : (r : Rule) (front back : List Token) (t : Token) (mid back' whole : List Token) → back ≡ t ∷ (mid ++ back') → whole ≡ front ++ t ∷ mid → Reason r front back → IsLive whole → IsWithin whole → ⊥
not-earlier r front back t mid back' whole e f h l w =
    let P : List Token → Type 0 = λ ts. Reason r front ts in
    broken r front (mid ++ back') t (subst P e h) (front-lives front t mid whole f l) whole mid f w

opening-begins : (t : Kind) → is_opening t ≡ true → begins_statement t ≡ true → ⊥
opening-begins kinds.OpenRound h g = cc g
opening-begins kinds.OpenSquare h g = cc g
opening-begins kinds.OpenCurly h g = cc g
opening-begins _ h g = cc h

one-reason : (r q : Rule) (front back : List Token) → Reason r front back → Reason q front back → r ≡ q
one-reason S5 S5 front back h g = refl
one-reason S6 S6 front back h g = refl
one-reason L4 L4 front back h g = refl
one-reason L5 L5 front back h g = refl
one-reason S5 S6 front back h g = absurd (h.1 g.1)
one-reason S6 S5 front back h g = absurd (g.1 h.1)
one-reason S5 L4 front [] h g = absurd g
one-reason S5 L4 front (t ∷ back) h g = absurd (h.0 g.0)
one-reason S5 L5 front [] h g = absurd g
one-reason S5 L5 front (t ∷ back) h g = absurd (h.0 g.0)
one-reason S6 L4 front [] h g = absurd g
one-reason S6 L4 front (t ∷ back) h g = absurd (h.0 g.0)
one-reason S6 L5 front [] h g = absurd g
one-reason S6 L5 front (t ∷ back) h g = absurd (h.0 g.0)
one-reason L4 S5 front [] h g = absurd h
one-reason L4 S5 front (t ∷ back) h g = absurd (g.0 h.0)
one-reason L5 S5 front [] h g = absurd h
one-reason L5 S5 front (t ∷ back) h g = absurd (g.0 h.0)
one-reason L4 S6 front [] h g = absurd h
one-reason L4 S6 front (t ∷ back) h g = absurd (g.0 h.0)
one-reason L5 S6 front [] h g = absurd h
one-reason L5 S6 front (t ∷ back) h g = absurd (g.0 h.0)
one-reason L4 L5 front [] h g = absurd h
one-reason L4 L5 front (t ∷ back) h g = absurd (opening-begins t.kind h.1 g.2)
one-reason L5 L4 front [] h g = absurd h
one-reason L5 L4 front (t ∷ back) h g = absurd (opening-begins t.kind g.1 h.2)
one-reason S5 _ front back h g = absurd g
one-reason S6 _ front back h g = absurd g
one-reason L4 _ front back h g = absurd g
one-reason L5 _ front back h g = absurd g
one-reason _ q front back h g = absurd h

same-place : (r q : Rule) (left left' : ℕ) (front back front' back' : List Token) → left ≡ length back → left' ≡ length back' → front ≡ front' → back ≡ back' → Reason r front back → Reason q front' back' → (r ≡ q) × (left ≡ left')
same-place r q left left' front back front' back' p p' e f h g =
    let P : List Token → Type 0 = λ ts. Reason q ts back' in
    let Q : List Token → Type 0 = λ ts. Reason q front ts in
    (one-reason r q front back h (subst Q (sym f) (subst P (sym e) g)), p ∙ ap length f ∙ sym p')

one-split : (r q : Rule) (left left' : ℕ) (tokens : List Token) → (h : IsRefused tokens r left) → (g : IsRefused tokens q left') → Splits h.front h.back g.front g.back → (r ≡ q) × (left ≡ left')
one-split r q left left' tokens h g (Same e f) = same-place r q left left' h.front h.back g.front g.back h.place g.place e f h.reason g.reason
one-split r q left left' tokens h g (Shorter t mid e f) = absurd (not-earlier r h.front h.back t mid g.back g.front e f h.reason g.live g.within)
one-split r q left left' tokens h g (Longer t mid e f) = absurd (not-earlier q g.front g.back t mid h.back h.front e f g.reason h.live h.within)

pub refused-once : (tokens : List Token) (r q : Rule) (left left' : ℕ) → IsRefused tokens r left → IsRefused tokens q left' → (r ≡ q) × (left ≡ left')
refused-once tokens r q left left' h g = one-split r q left left' tokens h g (splits h.front h.back g.front g.back (sym h.parts ∙ g.parts))

-- The verdicts of the building run.
pub built-accepted : (room : ℕ) (tokens : List Token) (decls : List DeclTree) (x : Made) → run true room tokens (Read syms.File ∷ []) (made [] decls) ≡ Built x
    → (trees : List DeclTree) × IsAccepted tokens trees × (x ≡ made [] (decls ++ trees))
built-accepted room tokens decls x e =
    let f = built-file true room tokens decls x e in
    let a : m.run true room tokens (syms.File ∷ []) ≡ m.Accepted = sym (same-run true room tokens (Read syms.File ∷ []) (made [] decls)) ∙ ap outcome e in
    (file_trees f.0, record { file = f.0; text = f.1; means = refl; within = run-accepted room tokens a }, f.2)

pub built-refused : (room : ℕ) (tokens : List Token) (decls : List DeclTree) (r : Rule) (left : ℕ) → run true room tokens (Read syms.File ∷ []) (made [] decls) ≡ Refused r left → IsRefused tokens r left
built-refused room tokens decls r left e =
    run-refused room tokens r left (sym (same-run true room tokens (Read syms.File ∷ []) (made [] decls)) ∙ ap outcome e)

-- And the run's are all verdicts.
abbrev pub Verdict : List Token → List DeclTree → Ending → Type 0
Verdict tokens decls (Built x) = (trees : List DeclTree) × IsAccepted tokens trees × (x ≡ made [] (decls ++ trees))
Verdict tokens decls (Refused r left) = IsRefused tokens r left

verdict : (room : ℕ) (tokens : List Token) (decls : List DeclTree) (e : Ending) → run true room tokens (Read syms.File ∷ []) (made [] decls) ≡ e → Verdict tokens decls e
verdict room tokens decls (Built x) h = built-accepted room tokens decls x h
verdict room tokens decls (Refused r left) h = built-refused room tokens decls r left h

accepted-is : (tokens : List Token) (decls trees : List DeclTree) (e : Ending) → Verdict tokens decls e → IsAccepted tokens trees → e ≡ Built (made [] (decls ++ trees))
accepted-is tokens decls trees (Built x) v a = ap Built (v.2 ∙ ap (λ ts. made [] (decls ++ ts)) (accepted-once tokens v.0 trees v.1 a))
accepted-is tokens decls trees (Refused r left) v a = absurd (accepted-refused tokens trees r left a v)

refused-is : (tokens : List Token) (decls : List DeclTree) (r : Rule) (left : ℕ) (e : Ending) → Verdict tokens decls e → IsRefused tokens r left → e ≡ Refused r left
refused-is tokens decls r left (Built x) v h = absurd (accepted-refused tokens v.0 r left v.1 h)
refused-is tokens decls r left (Refused q n) v h = let same = refused-once tokens q r n left v h in ap (λ p. Refused p n) same.0 ∙ ap (Refused r) same.1

pub accepted-built : (room : ℕ) (tokens : List Token) (decls trees : List DeclTree) → IsAccepted tokens trees → run true room tokens (Read syms.File ∷ []) (made [] decls) ≡ Built (made [] (decls ++ trees))
accepted-built room tokens decls trees a = accepted-is tokens decls trees _ (verdict room tokens decls _ refl) a

pub refused-run : (room : ℕ) (tokens : List Token) (decls : List DeclTree) (r : Rule) (left : ℕ) → IsRefused tokens r left → run true room tokens (Read syms.File ∷ []) (made [] decls) ≡ Refused r left
refused-run room tokens decls r left h = refused-is tokens decls r left _ (verdict room tokens decls _ refl) h
