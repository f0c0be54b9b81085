-- The machine's count of statements is that of the tokens: where it begins a statement, the token stands after a break,
-- and what is left of its room is what the tokens leave of 4,096.
use Rattle.std.proofs.Common.{◌≡◌, ◌∙◌, ◌+◌, ◌≤◌, ap, ℕ, Bool, true, false, ◌&&◌, ◌||◌, ◌⊎◌, inl, inr, not, List, [], ◌∷◌, ◌++◌, refl, nat_eq}
use Rattle.std.specs.Bool.{⊤}
use Rattle.wf_parse_grammar.specs.declared.tokens.Kind.{Kind}
use Rattle.wf_parse_grammar.specs.declared.tokens.Kind.TheVariants as kinds
use Rattle.wf_parse_grammar.specs.declared.symbols.Sym.{Sym}
use Rattle.wf_parse_grammar.specs.declared.symbols.Sym.TheVariants as syms
use Rattle.wf_parse_grammar.specs.Machine.{may_end}
use Rattle.wf_parse_grammar.specs.Statements.{is_break, begins_statement, one_more_where, counted}
use Rattle.wf_parse_grammar.proofs.MoveShapes.{is_fresh, is_body, is_calm, all_calm, bodied, is_head, implies, is_func, is_curly, is_semicolon}

-- Where the stack stands: 0 outside of methods, 1 in the head of one, 2 in its block.
abbrev pub phase_of : Sym → ℕ → ℕ
phase_of syms.MethodTail n = 1
phase_of syms.Body n = 1
phase_of syms.Vars n = 2
phase_of syms.MoreVars n = 2
phase_of syms.Items n = 2
phase_of syms.MoreItems n = 2
phase_of syms.Block n = 2
phase_of syms.Else n = 2
phase_of syms.ElseTail n = 2
phase_of syms.WhileHead n = 2
phase_of syms.LabelHead n = 2
phase_of syms.Clauses n = 2
phase_of syms.ClauseTail n = 2
phase_of _ n = n

abbrev pub phase : List Sym → ℕ
phase [] = 0
phase (s ∷ k) = phase_of s (phase k)

abbrev pub fresh_top : List Sym → Bool
fresh_top [] = false
fresh_top (s ∷ k) = is_fresh s

abbrev pub is_start : Sym → Bool
is_start syms.File = true
is_start s = is_fresh s

abbrev pub starts : List Sym → Bool
starts [] = false
starts (s ∷ k) = is_start s

-- What must stand below a symbol.
abbrev pub Needs : Sym → List Sym → Type 0
Needs syms.File k = k ≡ []
Needs syms.Decl k = k ≡ syms.ASemicolon ∷ syms.File ∷ []
Needs syms.ASemicolon k = k ≡ syms.File ∷ []
Needs syms.MethodTail k = k ≡ syms.ASemicolon ∷ syms.File ∷ []
Needs syms.Body k = k ≡ syms.ASemicolon ∷ syms.File ∷ []
Needs syms.Vars k = nat_eq (phase k) 1 ≡ false
Needs syms.MoreVars k = nat_eq (phase k) 1 ≡ false
Needs syms.Items k = nat_eq (phase k) 1 ≡ false
Needs syms.MoreItems k = nat_eq (phase k) 1 ≡ false
Needs syms.Block k = nat_eq (phase k) 1 ≡ false
Needs syms.Else k = nat_eq (phase k) 1 ≡ false
Needs syms.ElseTail k = nat_eq (phase k) 1 ≡ false
Needs syms.WhileHead k = nat_eq (phase k) 1 ≡ false
Needs syms.LabelHead k = nat_eq (phase k) 1 ≡ false
Needs syms.Clauses k = nat_eq (phase k) 1 ≡ false
Needs syms.ClauseTail k = nat_eq (phase k) 1 ≡ false
Needs _ k = true ≡ true

abbrev pub Sound : List Sym → Type 0
Sound [] = ⊤
Sound (s ∷ k) = Needs s k × (fresh_top k ≡ false) × Sound k

-- What is true between two tokens: of the stack, of whether a break was the last token, of the tokens' count and of the
-- machine's room.
pub record Counts (k : List Sym) (behind : Bool) (n room : ℕ) : Type 0 where
  pub sound : Sound k
  pub first : behind ≡ true → starts k ≡ true
  pub later : behind ≡ false → fresh_top k ≡ false
  pub inside : phase k ≡ 2 → room + n ≡ 4096
  pub head : phase k ≡ 1 → n ≡ 0
  pub most : n ≤ 4096

-- Tests.
pub both : (a b : Bool) → (a && b) ≡ true → (a ≡ true) × (b ≡ true)
both true b h = (refl, h)
both false b h = absurd (cc h)

pub either : (a b : Bool) → (a || b) ≡ true → (a ≡ true) ⊎ (b ≡ true)
either true b h = inl refl
either false b h = inr h

pub not-true : (a : Bool) → not a ≡ true → a ≡ false
not-true false h = refl
not-true true h = absurd (cc h)

pub implied : (a b : Bool) → implies a b ≡ true → a ≡ true → b ≡ true
implied true b h e = h
implied false b h e = absurd (cc e)

pub apart : (a : Bool) → a ≡ true → a ≡ false → ⊥
apart true h e = cc e
apart false h e = cc h

-- Symbols.
pub body-two : (s : Sym) (n : ℕ) → is_body s ≡ true → phase_of s n ≡ 2
body-two syms.Vars n h = refl
body-two syms.MoreVars n h = refl
body-two syms.Items n h = refl
body-two syms.MoreItems n h = refl
body-two syms.Block n h = refl
body-two syms.Else n h = refl
body-two syms.ElseTail n h = refl
body-two syms.WhileHead n h = refl
body-two syms.LabelHead n h = refl
body-two syms.Clauses n h = refl
body-two syms.ClauseTail n h = refl
body-two _ n h = absurd (cc h)

calm-phase : (s : Sym) (n : ℕ) → is_calm s ≡ true → is_body s ≡ false → phase_of s n ≡ n
calm-phase syms.MethodTail n h g = absurd (cc h)
calm-phase syms.Body n h g = absurd (cc h)
calm-phase syms.Vars n h g = absurd (cc g)
calm-phase syms.MoreVars n h g = absurd (cc g)
calm-phase syms.Items n h g = absurd (cc g)
calm-phase syms.MoreItems n h g = absurd (cc g)
calm-phase syms.Block n h g = absurd (cc g)
calm-phase syms.Else n h g = absurd (cc g)
calm-phase syms.ElseTail n h g = absurd (cc g)
calm-phase syms.WhileHead n h g = absurd (cc g)
calm-phase syms.LabelHead n h g = absurd (cc g)
calm-phase syms.Clauses n h g = absurd (cc g)
calm-phase syms.ClauseTail n h g = absurd (cc g)
calm-phase _ n h g = refl

pub phase-two : (s : Sym) → is_head s ≡ false → phase_of s 2 ≡ 2
phase-two syms.MethodTail h = absurd (cc h)
phase-two syms.Body h = absurd (cc h)
phase-two _ h = refl

pub phase-one : (s : Sym) → is_body s ≡ false → phase_of s 1 ≡ 1
phase-one syms.Vars h = absurd (cc h)
phase-one syms.MoreVars h = absurd (cc h)
phase-one syms.Items h = absurd (cc h)
phase-one syms.MoreItems h = absurd (cc h)
phase-one syms.Block h = absurd (cc h)
phase-one syms.Else h = absurd (cc h)
phase-one syms.ElseTail h = absurd (cc h)
phase-one syms.WhileHead h = absurd (cc h)
phase-one syms.LabelHead h = absurd (cc h)
phase-one syms.Clauses h = absurd (cc h)
phase-one syms.ClauseTail h = absurd (cc h)
phase-one _ h = refl

calm-needs : (s : Sym) (k : List Sym) → is_calm s ≡ true → is_body s ≡ false → Needs s k
calm-needs syms.File k h g = absurd (cc h)
calm-needs syms.Decl k h g = absurd (cc h)
calm-needs syms.ASemicolon k h g = absurd (cc h)
calm-needs syms.MethodTail k h g = absurd (cc h)
calm-needs syms.Body k h g = absurd (cc h)
calm-needs syms.Vars k h g = absurd (cc g)
calm-needs syms.MoreVars k h g = absurd (cc g)
calm-needs syms.Items k h g = absurd (cc g)
calm-needs syms.MoreItems k h g = absurd (cc g)
calm-needs syms.Block k h g = absurd (cc g)
calm-needs syms.Else k h g = absurd (cc g)
calm-needs syms.ElseTail k h g = absurd (cc g)
calm-needs syms.WhileHead k h g = absurd (cc g)
calm-needs syms.LabelHead k h g = absurd (cc g)
calm-needs syms.Clauses k h g = absurd (cc g)
calm-needs syms.ClauseTail k h g = absurd (cc g)
calm-needs _ k h g = refl

pub body-needs : (s : Sym) (k : List Sym) → is_body s ≡ true → nat_eq (phase k) 1 ≡ false → Needs s k
body-needs syms.Vars k h g = g
body-needs syms.MoreVars k h g = g
body-needs syms.Items k h g = g
body-needs syms.MoreItems k h g = g
body-needs syms.Block k h g = g
body-needs syms.Else k h g = g
body-needs syms.ElseTail k h g = g
body-needs syms.WhileHead k h g = g
body-needs syms.LabelHead k h g = g
body-needs syms.Clauses k h g = g
body-needs syms.ClauseTail k h g = g
body-needs _ k h g = absurd (cc h)

pub needs-body : (s : Sym) (k : List Sym) → is_body s ≡ true → Needs s k → nat_eq (phase k) 1 ≡ false
needs-body syms.Vars k h g = g
needs-body syms.MoreVars k h g = g
needs-body syms.Items k h g = g
needs-body syms.MoreItems k h g = g
needs-body syms.Block k h g = g
needs-body syms.Else k h g = g
needs-body syms.ElseTail k h g = g
needs-body syms.WhileHead k h g = g
needs-body syms.LabelHead k h g = g
needs-body syms.Clauses k h g = g
needs-body syms.ClauseTail k h g = g
needs-body _ k h g = absurd (cc h)

calm-fresh : (s : Sym) → is_calm s ≡ true → is_fresh s ≡ false
calm-fresh syms.Items h = absurd (cc h)
calm-fresh syms.Vars h = absurd (cc h)
calm-fresh _ h = refl

pub fresh-body : (s : Sym) → is_fresh s ≡ true → is_body s ≡ true
fresh-body syms.Items h = refl
fresh-body syms.Vars h = refl
fresh-body _ h = absurd (cc h)

pub fresh-start : (s : Sym) → is_fresh s ≡ true → is_start s ≡ true
fresh-start syms.Items h = refl
fresh-start syms.Vars h = refl
fresh-start _ h = absurd (cc h)

pub passing-head : (s : Sym) → may_end s ≡ true → is_head s ≡ false
passing-head syms.MethodTail h = absurd (cc h)
passing-head syms.Body h = absurd (cc h)
passing-head _ h = refl

-- a symbol that starts and passes a token on is the last
pub last_one : (s : Sym) (k : List Sym) → may_end s ≡ true → is_start s ≡ true → Needs s k → k ≡ []
last_one syms.File k h g n = n
last_one syms.Items k h g n = absurd (cc h)
last_one syms.Vars k h g n = absurd (cc h)
last_one _ k h g n = absurd (cc g)

-- Kinds.
pub begins-break : (t : Kind) → begins_statement t ≡ true → is_break t ≡ false
begins-break kinds.OpenCurly h = absurd (cc h)
begins-break kinds.Semicolon h = absurd (cc h)
begins-break _ h = refl

pub begins-func : (t : Kind) → begins_statement t ≡ true → is_func t ≡ false
begins-func kinds.Func h = absurd (cc h)
begins-func _ h = refl

pub break-begins : (t : Kind) → is_break t ≡ true → begins_statement t ≡ false
break-begins kinds.OpenCurly h = refl
break-begins kinds.Semicolon h = refl
break-begins _ h = absurd (cc h)

pub break-func : (t : Kind) → is_break t ≡ true → is_func t ≡ false
break-func kinds.OpenCurly h = refl
break-func kinds.Semicolon h = refl
break-func _ h = absurd (cc h)

pub func-break : (t : Kind) → is_func t ≡ true → is_break t ≡ false
func-break kinds.Func h = refl
func-break _ h = absurd (cc h)

pub curly-break : (t : Kind) → is_curly t ≡ true → is_break t ≡ true
curly-break kinds.OpenCurly h = refl
curly-break _ h = absurd (cc h)

pub semicolon-break : (t : Kind) → is_semicolon t ≡ true → is_break t ≡ true
semicolon-break kinds.Semicolon h = refl
semicolon-break _ h = absurd (cc h)

pub count-func : (b : Bool) (n : ℕ) (t : Kind) → is_func t ≡ true → counted b n t ≡ 0
count-func b n kinds.Func h = refl
count-func b n _ h = absurd (cc h)

pub count-behind : (n : ℕ) (t : Kind) → is_func t ≡ false → counted true n t ≡ one_more_where (begins_statement t) n
count-behind n kinds.Func h = absurd (cc h)
count-behind n _ h = refl

pub count-else : (n : ℕ) (t : Kind) → is_func t ≡ false → counted false n t ≡ n
count-else n kinds.Func h = absurd (cc h)
count-else n _ h = refl

pub count-same : (b : Bool) (n : ℕ) (t : Kind) → is_func t ≡ false → (b ≡ true → begins_statement t ≡ false) → counted b n t ≡ n
count-same true n t h g = count-behind n t h ∙ ap (λ c. one_more_where c n) (g refl)
count-same false n t h g = count-else n t h

-- Calm symbols before a stack.
abbrev pub two_or : Bool → ℕ → ℕ
two_or true n = 2
two_or false n = n

pub calm-append : (xs k : List Sym) → all_calm xs ≡ true → phase (xs ++ k) ≡ two_or (bodied xs) (phase k)
calm-append [] k h = refl
calm-append (x ∷ xs) k h = one-more x (is_body x) refl (both (is_calm x) (all_calm xs) h).0 ((calm-append xs k) (both (is_calm x) (all_calm xs) h).1)
  where
    one-more : (x : Sym) (b : Bool) → is_body x ≡ b → is_calm x ≡ true → phase (xs ++ k) ≡ two_or (bodied xs) (phase k) → phase_of x (phase (xs ++ k)) ≡ two_or (b || bodied xs) (phase k)
    one-more x true e c h = body-two x _ e
    one-more x false e c h = calm-phase x _ c e ∙ h

pub calm-top : (xs k : List Sym) → all_calm xs ≡ true → fresh_top k ≡ false → fresh_top (xs ++ k) ≡ false
calm-top [] k h f = f
calm-top (x ∷ xs) k h f = calm-fresh x (both (is_calm x) (all_calm xs) h).0

not_head-append : (xs k : List Sym) (b : Bool) → bodied xs ≡ b → all_calm xs ≡ true → (b ≡ false → nat_eq (phase k) 1 ≡ false) → nat_eq (phase (xs ++ k)) 1 ≡ false
not_head-append xs k true e h f = ap (λ n. nat_eq n 1) (calm-append xs k h ∙ ap (λ b. two_or b (phase k)) e)
not_head-append xs k false e h f = ap (λ n. nat_eq n 1) (calm-append xs k h ∙ ap (λ b. two_or b (phase k)) e) ∙ f refl

pub calm-sound : (xs k : List Sym) → all_calm xs ≡ true → (bodied xs ≡ true → nat_eq (phase k) 1 ≡ false) → fresh_top k ≡ false → Sound k → Sound (xs ++ k)
calm-sound [] k h f t d = d
calm-sound (x ∷ xs) k h f t d =
    let c = both (is_calm x) (all_calm xs) h in
    (needed x (is_body x) refl c.0 c.1 f, calm-top xs k c.1 t, calm-sound xs k c.1 (λ e. f (or-right (is_body x) (bodied xs) e)) t d)
  where
    or-right : (a b : Bool) → b ≡ true → (a || b) ≡ true
    or-right true b h = refl
    or-right false b h = h

    needed : (x : Sym) (b : Bool) → is_body x ≡ b → is_calm x ≡ true → all_calm xs ≡ true → ((is_body x || bodied xs) ≡ true → nat_eq (phase k) 1 ≡ false) → Needs x (xs ++ k)
    needed x true e c d f = body-needs x (xs ++ k) e (not_head-append xs k (bodied xs) refl d (λ g. f (ap (λ a. a || bodied xs) e)))
    needed x false e c d f = calm-needs x (xs ++ k) c e
