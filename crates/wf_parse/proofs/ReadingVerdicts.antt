-- What the machine answers within the number of tokens, in words of the grammar.
use Rattle.std.proofs.Common.{◌≡◌, ◌≤◌, ◌<◌, ◌+◌, ◌-◌, ◌⊎◌, inl, inr, ℕ, zero, suc, Bool, true, false, ◌&&◌, if◌then◌else◌, nat_le, nat_eq, List, [], ◌∷◌, ◌++◌, length, refl, sym, ◌∙◌, ap, subst, arith, length-append, append_assoc}
use Rattle.wf_text.specs.declared.place.Place.{Place}
use Rattle.wf_text.specs.declared.rules.Rule.{Rule}
use Rattle.wf_text.specs.declared.rules.Rule.TheVariants.{S5, S6, L3, L4, L5}
use Rattle.wf_ast.specs.declared.operators.Op.TheVariants as ops
use Rattle.wf_ast.specs.Operators.{same_op}
use Rattle.wf_ast.specs.ParsedTree.{DeclTree}
use Rattle.wf_parse_grammar.specs.declared.builds.Build.{Build}
use Rattle.wf_parse_grammar.specs.declared.builds.Build.TheVariants.{Take, Begin, Enter, Pass, Stop}
use Rattle.wf_parse_grammar.specs.declared.symbols.Sym.{Sym}
use Rattle.wf_parse_grammar.specs.declared.symbols.Sym.TheVariants as syms
use Rattle.wf_parse_grammar.specs.declared.symbols.Want.{Want}
use Rattle.wf_parse_grammar.specs.declared.symbols.Want.TheVariants.{Read, Make}
use Rattle.wf_parse_grammar.specs.declared.tokens.Kind.{Kind}
use Rattle.wf_parse_grammar.specs.declared.tokens.Kind.TheVariants as kinds
use Rattle.wf_parse_grammar.specs.declared.tokens.Token.{Token}
use Rattle.wf_parse_grammar.specs.Building.{Ending, Built, Refused, unless, after, step, run, build, skipped, open_wants}
use Rattle.wf_parse_grammar.specs.Files.{IsLive}
use Rattle.wf_parse_grammar.specs.Machine.{opens}
use Rattle.wf_parse_grammar.specs.Refusals.{IsWithin, IsAccepted, IsTooDeep, IsTooLong, IsRefused}
use Rattle.wf_parse_grammar.specs.Values.{Made, perform}
use Rattle.wf_parse_grammar.proofs.Verdicts.{built-accepted, built-refused}
use Rattle.wf_parse.specs.Parsing.{IsPastTokens, IsWrong}
use Rattle.wf_parse.specs.Reading.{reading, read_file}
use Rattle.wf_parse.proofs.Outcomes.{Next, Outcome, outcome, reading_built, bad_step}

-- The table refuses by S5 or S6; the limits have rules of their own.
is_wrong : Rule → Bool
is_wrong S5 = true
is_wrong S6 = true
is_wrong _ = false

stops : Build → Bool
stops (Stop rule) = is_wrong rule
stops _ = true

if_stops : (b : Bool) (x y : Build) → stops x ≡ true → stops y ≡ true → stops (if b then x else y) ≡ true
if_stops true x y h k = h
if_stops false x y h k = k

stops_build : (s : Sym) (t : Kind) (p : Place) → stops (build s t p) ≡ true
unfolding stops is_wrong
stops_build syms.File kinds.Bad p = refl
stops_build syms.File t p = refl
stops_build syms.Decl kinds.Bad p = refl
stops_build syms.Decl t p = refl
stops_build syms.FieldsMark kinds.Bad p = refl
stops_build syms.FieldsMark t p = refl
stops_build syms.FieldsOpen kinds.Bad p = refl
stops_build syms.FieldsOpen t p = refl
stops_build syms.Fields kinds.Bad p = refl
stops_build syms.Fields t p = refl
stops_build syms.MoreFields kinds.Bad p = refl
stops_build syms.MoreFields t p = refl
stops_build syms.OtherFields (kinds.Chain ops.Add) p = refl
stops_build syms.OtherFields (kinds.Chain op) p = refl
stops_build syms.OtherFields kinds.Bad p = refl
stops_build syms.OtherFields t p = refl
stops_build syms.MethodTail kinds.Bad p = refl
stops_build syms.MethodTail t p = refl
stops_build syms.Body kinds.Bad p = refl
stops_build syms.Body t p = refl
stops_build syms.WholeType kinds.Bad p = refl
stops_build syms.WholeType t p = refl
stops_build syms.ArrayLength kinds.Bad p = refl
stops_build syms.ArrayLength t p = refl
stops_build syms.BaseName kinds.Bad p = refl
stops_build syms.BaseName t p = refl
stops_build syms.BoundsPart kinds.Bad p = refl
stops_build syms.BoundsPart t p = refl
stops_build syms.Low kinds.Bad p = refl
stops_build syms.Low t p = refl
stops_build syms.Vars kinds.Bad p = refl
stops_build syms.Vars t p = refl
stops_build syms.MoreVars kinds.Bad p = refl
stops_build syms.MoreVars t p = refl
stops_build syms.Block kinds.Bad p = refl
stops_build syms.Block t p = refl
stops_build syms.Items kinds.Bad p = refl
stops_build syms.Items t p = refl
stops_build syms.MoreItems kinds.Bad p = refl
stops_build syms.MoreItems t p = refl
stops_build syms.PathStmt kinds.Bad p = refl
stops_build syms.PathStmt t p = refl
stops_build syms.ThisStmt kinds.Bad p = refl
stops_build syms.ThisStmt t p = refl
stops_build syms.TargetStmt kinds.Bad p = refl
stops_build syms.TargetStmt t p = refl
stops_build syms.Call kinds.Bad p = refl
stops_build syms.Call t p = refl
stops_build syms.CallThis kinds.Bad p = refl
stops_build syms.CallThis t p = refl
stops_build syms.CallMark kinds.Bad p = refl
stops_build syms.CallMark t p = refl
stops_build syms.Else kinds.Bad p = refl
stops_build syms.Else t p = refl
stops_build syms.ElseTail kinds.Bad p = refl
stops_build syms.ElseTail t p = refl
stops_build syms.WhileHead kinds.Bad p = refl
stops_build syms.WhileHead t p = refl
stops_build syms.LabelHead kinds.Bad p = refl
stops_build syms.LabelHead t p = refl
stops_build syms.Clauses kinds.Bad p = refl
stops_build syms.Clauses t p = refl
stops_build syms.ClauseTail kinds.Bad p = refl
stops_build syms.ClauseTail t p = refl
stops_build syms.EndPart kinds.Bad p = refl
stops_build syms.EndPart t p = refl
stops_build (syms.EndLabel label) kinds.Bad p = refl
stops_build (syms.EndLabel label) t p = refl
stops_build (syms.Label label) (kinds.Name n) p = if_stops (nat_eq label.0 n.0) _ _ refl refl
stops_build (syms.Label label) kinds.Bad p = refl
stops_build (syms.Label label) t p = refl
stops_build syms.LabelPart kinds.Bad p = refl
stops_build syms.LabelPart t p = refl
stops_build syms.Result kinds.Bad p = refl
stops_build syms.Result t p = refl
stops_build syms.Via kinds.Bad p = refl
stops_build syms.Via t p = refl
stops_build syms.Expr kinds.Bad p = refl
stops_build syms.Expr t p = refl
stops_build syms.Rest kinds.Bad p = refl
stops_build syms.Rest t p = refl
stops_build (syms.Links op) (kinds.Chain next) p = if_stops (same_op op next) _ _ refl refl
stops_build (syms.Links op) kinds.Bad p = refl
stops_build (syms.Links op) t p = refl
stops_build syms.End kinds.Bad p = refl
stops_build syms.End t p = refl
stops_build syms.Operand kinds.Bad p = refl
stops_build syms.Operand t p = refl
stops_build syms.Atom kinds.Bad p = refl
stops_build syms.Atom t p = refl
stops_build syms.PathAtom kinds.Bad p = refl
stops_build syms.PathAtom t p = refl
stops_build syms.ThisAtom kinds.Bad p = refl
stops_build syms.ThisAtom t p = refl
stops_build syms.Cut kinds.Bad p = refl
stops_build syms.Cut t p = refl
stops_build syms.CutTail kinds.Bad p = refl
stops_build syms.CutTail t p = refl
stops_build syms.CutEnd kinds.Bad p = refl
stops_build syms.CutEnd t p = refl
stops_build syms.CallOpen kinds.Bad p = refl
stops_build syms.CallOpen t p = refl
stops_build syms.GivensOpen kinds.Bad p = refl
stops_build syms.GivensOpen t p = refl
stops_build syms.Givens kinds.Bad p = refl
stops_build syms.Givens t p = refl
stops_build syms.MoreGivens kinds.Bad p = refl
stops_build syms.MoreGivens t p = refl
stops_build syms.AName kinds.Bad p = refl
stops_build syms.AName t p = refl
stops_build syms.AText kinds.Bad p = refl
stops_build syms.AText t p = refl
stops_build syms.ADot kinds.Bad p = refl
stops_build syms.ADot t p = refl
stops_build syms.AColon kinds.Bad p = refl
stops_build syms.AColon t p = refl
stops_build syms.ASemicolon kinds.Bad p = refl
stops_build syms.ASemicolon t p = refl
stops_build syms.AnEquals kinds.Bad p = refl
stops_build syms.AnEquals t p = refl
stops_build syms.AQuestion kinds.Bad p = refl
stops_build syms.AQuestion t p = refl
stops_build syms.ADotsEquals kinds.Bad p = refl
stops_build syms.ADotsEquals t p = refl
stops_build syms.RightRound kinds.Bad p = refl
stops_build syms.RightRound t p = refl
stops_build syms.RightSquare kinds.Bad p = refl
stops_build syms.RightSquare t p = refl

-- A token that is taken without limits is, with them, taken too or refused by one of them.
abbrev TakesToo : (ℕ → Next → Ending) → ℕ → List Want → Made → Type 0
TakesToo ending room wants made = ((left : ℕ) (next : Next) → ending left next ≡ next room wants made) ⊎ (((left : ℕ) (next : Next) → ending left next ≡ Refused L4 left) ⊎ ((left : ℕ) (next : Next) → ending left next ≡ Refused L5 left))

-- What comes of a token without limits and with them.
abbrev Both : (free limited : ℕ → Next → Ending) → Type 0
Both free limited =
    ((room : ℕ) × (wants : List Want) × (made : Made) × ((left : ℕ) (next : Next) → free left next ≡ next room wants made) × TakesToo limited room wants made)
    ⊎ ((rule : Rule) × (is_wrong rule ≡ true) × ((left : ℕ) (next : Next) → free left next ≡ Refused rule left) × ((left : ℕ) (next : Next) → limited left next ≡ Refused rule left))

deep_too : (deep : Bool) (room : ℕ) (wants : List Want) (made : Made) → TakesToo (λ left next. unless deep L4 left (next room wants made)) room wants made
deep_too true room wants made = inr (inl (λ left next. refl))
deep_too false room wants made = inl (λ left next. refl)

long_too : (long : Bool) (room : ℕ) (wants : List Want) (made : Made) → TakesToo (λ left next. unless long L5 left (next room wants made)) room wants made
long_too true room wants made = inr (inr (λ left next. refl))
long_too false room wants made = inl (λ left next. refl)

after_both : (room : ℕ) (b : Build) (whole below : List Want) (made : Made) (t : Kind) (free limited : ℕ → Next → Ending) → stops b ≡ true → Both free limited
    → Both (λ left next. after false room b whole below made t left next (free left next)) (λ left next. after true room b whole below made t left next (limited left next))
unfolding stops
after_both room (Take xs) whole below made t free limited e o = inl (room, xs ++ below, made, λ left next. refl, deep_too (opens t && nat_le 48 (open_wants whole)) room (xs ++ below) made)
after_both room (Begin xs) whole below made t free limited e o = inl (room - 1, xs ++ below, made, λ left next. refl, long_too (nat_eq room 0) (room - 1) (xs ++ below) made)
after_both room (Enter xs) whole below made t free limited e o = inl (4096, xs ++ below, made, λ left next. refl, deep_too (nat_le 48 (open_wants whole)) 4096 (xs ++ below) made)
after_both room Pass whole below made t free limited e o = o
after_both room (Stop rule) whole below made t free limited e o = inr (rule, e, λ left next. refl, λ left next. refl)

both : (room : ℕ) (k : List Want) (made : Made) (t : Token) → Both (λ left next. step false room k made t left next) (λ left next. step true room k made t left next)
unfolding is_wrong
both room [] made t = inr (S5, refl, λ left next. refl, λ left next. refl)
both room (Make a ∷ k) made t = both room k (perform a made) t
both room (Read s ∷ k) made t =
    after_both room (build s t.kind t.at) (Read s ∷ k) k made t.kind (λ left next. step false room k (skipped s made) t left next) (λ left next. step true room k (skipped s made) t left next) (stops_build s t.kind t.at) (both room k (skipped s made) t)

-- A refusal within the number of tokens, one at the token that passes it, and that of the number.
bad : Token → Token
bad t = record { kind = kinds.Bad; at = t.at }

record Early (most room : ℕ) (tokens : List Token) (k : List Want) (made : Made) (rule : Rule) (left : ℕ) : Type 0 where
  refused : run true room tokens k made ≡ Refused rule left
  few : length tokens ≤ most + left
  soon : 0 < left → length tokens < most + left

record AtLimit (most room : ℕ) (tokens : List Token) (k : List Want) (made : Made) (rule : Rule) (left : ℕ) : Type 0 where
  wrong : is_wrong rule ≡ true
  refused : run true room tokens k made ≡ Refused rule left
  few : length tokens ≤ most + left

record Past (most room : ℕ) (tokens : List Token) (k : List Want) (made : Made) (rule : Rule) (left : ℕ) : Type 0 where
  rule_is : rule ≡ L3
  front : List Token
  t : Token
  back : List Token
  parts : tokens ≡ front ++ t ∷ back
  most_is : length front ≡ most
  place : left ≡ suc (length back)
  at : Token
  at_is : at.kind ≡ kinds.Bad
  refused : ((q : Rule) × (run true room (front ++ t ∷ at ∷ []) k made ≡ Refused q 1)) ⊎ ((run true room (front ++ t ∷ at ∷ []) k made ≡ Refused L4 2) ⊎ (run true room (front ++ t ∷ at ∷ []) k made ≡ Refused L5 2))

rule_of : Ending → Rule
rule_of (Refused rule left) = rule
rule_of (Built made) = S5

left_of : Ending → ℕ
left_of (Refused rule left) = left
left_of (Built made) = 0

same_refusal : (r q : Rule) (m n : ℕ) → Refused r m ≡ Refused q n → (r ≡ q) × (m ≡ n)
unfolding rule_of left_of
same_refusal r q m n e = (ap rule_of e, ap left_of e)

past_here : (room : ℕ) (k : List Want) (made : Made) (t : Token) (room' : ℕ) (wants : List Want) (made' : Made) → TakesToo (λ left next. step true room k made t left next) room' wants made'
    → (let at : Token = record { kind = kinds.Bad; at = t.at } in ((q : Rule) × (run true room (t ∷ at ∷ []) k made ≡ Refused q 1)) ⊎ ((run true room (t ∷ at ∷ []) k made ≡ Refused L4 2) ⊎ (run true room (t ∷ at ∷ []) k made ≡ Refused L5 2)))
past_here room k made t room' wants made' (inl f) =
    let at : Token = record { kind = kinds.Bad; at = t.at } in
    let next : Next = λ room_left wanted made_then. run true room_left (at ∷ []) wanted made_then in
    let refused = bad_step true room' wants made' t.at 1 (λ room_left wanted made_then. run true room_left [] wanted made_then) in
    inl (refused.0, f 2 next ∙ refused.1)
past_here room k made t room' wants made' (inr (inl f)) = inr (inl (f 2 (λ room_left wanted made_then. run true room_left (record { kind = kinds.Bad; at = t.at } ∷ []) wanted made_then)))
past_here room k made t room' wants made' (inr (inr f)) = inr (inr (f 2 (λ room_left wanted made_then. run true room_left (record { kind = kinds.Bad; at = t.at } ∷ []) wanted made_then)))

reading_refused : (most room : ℕ) (tokens : List Token) (k : List Want) (made : Made) (rule : Rule) (left : ℕ) → reading most room tokens k made ≡ Refused rule left
    → Early most room tokens k made rule left ⊎ (AtLimit most room tokens k made rule left ⊎ Past most room tokens k made rule left)
reading_refused zero room [] k made rule left e = inl (record { refused = e; few = omega arith; soon = λ h. omega (arith, h) })
reading_refused (suc most) room [] k made rule left e = inl (record { refused = e; few = omega arith; soon = λ h. omega (arith, h) })
reading_refused zero room (t ∷ ts) k made rule left e = at_limit (both room k made t)
  where
    here : ℕ
    here = suc (length ts)

    last : Next
    last = λ _ _ _. Refused L3 (suc (length ts))

    at_limit : Both (λ l n. step false room k made t l n) (λ l n. step true room k made t l n) → Early zero room (t ∷ ts) k made rule left ⊎ (AtLimit zero room (t ∷ ts) k made rule left ⊎ Past zero room (t ∷ ts) k made rule left)
    at_limit (inl o) =
        let same = same_refusal L3 rule (suc (length ts)) left (sym (o.3 (suc (length ts)) (λ _ _ _. Refused L3 (suc (length ts)))) ∙ e) in
        inr (inr (record { rule_is = sym same.0; front = []; t = t; back = ts; parts = refl; most_is = refl; place = sym same.1; at = record { kind = kinds.Bad; at = t.at }; at_is = refl; refused = past_here room k made t o.0 o.1 o.2 o.4 }))
    at_limit (inr o) =
        let same = same_refusal o.0 rule (suc (length ts)) left (sym (o.2 (suc (length ts)) (λ _ _ _. Refused L3 (suc (length ts)))) ∙ e) in
        let P : Rule → Type 0 = λ r. is_wrong r ≡ true in
        let count = same.1 in
        inr (inl (record { wrong = subst P same.0 o.1; refused = o.3 (suc (length ts)) (λ room_left wanted made_then. run true room_left ts wanted made_then) ∙ sym (o.2 (suc (length ts)) (λ _ _ _. Refused L3 (suc (length ts)))) ∙ e; few = omega (arith, count) }))
reading_refused (suc most) room (t ∷ ts) k made rule left e = by_token (λ r wants then_made h. reading_refused most r ts wants then_made rule left h) (outcome true room k made t)
  where
    lift : (o : (room' : ℕ) × (wants : List Want) × (made' : Made) × ((l : ℕ) (n : Next) → step true room k made t l n ≡ n room' wants made')) → Early most o.0 ts o.1 o.2 rule left ⊎ (AtLimit most o.0 ts o.1 o.2 rule left ⊎ Past most o.0 ts o.1 o.2 rule left)
        → Early (suc most) room (t ∷ ts) k made rule left ⊎ (AtLimit (suc most) room (t ∷ ts) k made rule left ⊎ Past (suc most) room (t ∷ ts) k made rule left)
    lift o (inl x) =
        let few = x.few in
        inl (record { refused = o.3 (suc (length ts)) (λ room_left wanted made_then. run true room_left ts wanted made_then) ∙ x.refused; few = omega (arith, few); soon = λ h. let soon = x.soon h in omega (arith, soon) })
    lift o (inr (inl x)) =
        let few = x.few in
        inr (inl (record { wrong = x.wrong; refused = o.3 (suc (length ts)) (λ room_left wanted made_then. run true room_left ts wanted made_then) ∙ x.refused; few = omega (arith, few) }))
    lift o (inr (inr x)) =
        inr (inr (record { rule_is = x.rule_is; front = t ∷ x.front; t = x.t; back = x.back; parts = ap (λ xs. t ∷ xs) x.parts; most_is = ap suc x.most_is; place = x.place; at = x.at; at_is = x.at_is; refused = lift_past x.refused }))
      where
        rest : List Token
        rest = x.front ++ x.t ∷ x.at ∷ []

        lift_past : ((q : Rule) × (run true o.0 (x.front ++ x.t ∷ x.at ∷ []) o.1 o.2 ≡ Refused q 1)) ⊎ ((run true o.0 (x.front ++ x.t ∷ x.at ∷ []) o.1 o.2 ≡ Refused L4 2) ⊎ (run true o.0 (x.front ++ x.t ∷ x.at ∷ []) o.1 o.2 ≡ Refused L5 2))
            → ((q : Rule) × (run true room (t ∷ (x.front ++ x.t ∷ x.at ∷ [])) k made ≡ Refused q 1)) ⊎ ((run true room (t ∷ (x.front ++ x.t ∷ x.at ∷ [])) k made ≡ Refused L4 2) ⊎ (run true room (t ∷ (x.front ++ x.t ∷ x.at ∷ [])) k made ≡ Refused L5 2))
        lift_past (inl y) = inl (y.0, o.3 (suc (length (x.front ++ x.t ∷ x.at ∷ []))) (λ room_left wanted made_then. run true room_left (x.front ++ x.t ∷ x.at ∷ []) wanted made_then) ∙ y.1)
        lift_past (inr (inl y)) = inr (inl (o.3 (suc (length (x.front ++ x.t ∷ x.at ∷ []))) (λ room_left wanted made_then. run true room_left (x.front ++ x.t ∷ x.at ∷ []) wanted made_then) ∙ y))
        lift_past (inr (inr y)) = inr (inr (o.3 (suc (length (x.front ++ x.t ∷ x.at ∷ []))) (λ room_left wanted made_then. run true room_left (x.front ++ x.t ∷ x.at ∷ []) wanted made_then) ∙ y))

    by_token : ((r : ℕ) (wants : List Want) (then_made : Made) → reading most r ts wants then_made ≡ Refused rule left → Early most r ts wants then_made rule left ⊎ (AtLimit most r ts wants then_made rule left ⊎ Past most r ts wants then_made rule left)) → Outcome (λ l n. step true room k made t l n) → Early (suc most) room (t ∷ ts) k made rule left ⊎ (AtLimit (suc most) room (t ∷ ts) k made rule left ⊎ Past (suc most) room (t ∷ ts) k made rule left)
    by_token again (inl o) = lift o (again o.0 o.1 o.2 (sym (o.3 (suc (length ts)) (λ room_left wanted made_then. reading most room_left ts wanted made_then)) ∙ e))
    by_token again (inr o) =
        let same = same_refusal o.0 rule (suc (length ts)) left (sym (o.1 (suc (length ts)) (λ room_left wanted made_then. reading most room_left ts wanted made_then)) ∙ e) in
        let count = same.1 in
        inl (record { refused = o.1 (suc (length ts)) (λ room_left wanted made_then. run true room_left ts wanted made_then) ∙ sym (o.1 (suc (length ts)) (λ room_left wanted made_then. reading most room_left ts wanted made_then)) ∙ e; few = omega (arith, count); soon = λ h. omega (arith, count) })

-- Two cuts of a list at one place are the same.
same_cut : {X : Type 0} (a b c d : List X) → a ++ b ≡ c ++ d → length a ≡ length c → (a ≡ c) × (b ≡ d)
same_cut [] b [] d e h = (refl, e)
same_cut [] b (y ∷ c) d e h = absurd (cc h)
same_cut (x ∷ a) b [] d e h = absurd (cc h)
same_cut (x ∷ a) b (y ∷ c) d e h =
    let head : x ≡ y = cc e in
    let tail : a ++ b ≡ c ++ d = cc e in
    let count : length a ≡ length c = omega (arith, h) in
    let same = same_cut a b c d tail count in
    let a_is = same.0 in
    (cc, same.1)

-- The limits hold of the front where they hold of more.
within_front : (front more : List Token) → IsWithin (front ++ more) → IsWithin front
within_front front more w = record {
  shallow = λ f t b e h. w.shallow f t (b ++ more) (ap (λ xs. xs ++ more) e ∙ append_assoc f (t ∷ b) more) h;
  short = λ f b e. w.short f (b ++ more) (ap (λ xs. xs ++ more) e ∙ append_assoc f b more);
}

-- The token that passes the number of tokens.
past_tokens : (most : ℕ) (tokens front back : List Token) (t at : Token) (left : ℕ) → tokens ≡ front ++ t ∷ back → length front ≡ most → left ≡ suc (length back)
    → ((q : Rule) × IsRefused (front ++ t ∷ at ∷ []) q 1) ⊎ (IsRefused (front ++ t ∷ at ∷ []) L4 2 ⊎ IsRefused (front ++ t ∷ at ∷ []) L5 2) → IsPastTokens most tokens left
past_tokens most tokens front back t at left parts most_is place (inl x) =
    let r = x.1 in
    let whole : (front ++ t ∷ []) ++ at ∷ [] ≡ r.front ++ r.back = append_assoc front (t ∷ []) (at ∷ []) ∙ r.parts in
    let count_left = length-append (front ++ t ∷ []) (at ∷ []) in
    let count_right = length-append r.front r.back in
    let counts = ap length whole in
    let place_is = r.place in
    let same = same_cut (front ++ t ∷ []) (at ∷ []) r.front r.back whole (omega (arith, count_left, count_right, counts, place_is)) in
    let P : List Token → Type 0 = λ xs. IsLive xs × IsWithin xs in
    let there : IsLive (front ++ t ∷ []) × IsWithin (front ++ t ∷ []) = subst P (sym same.0) (r.live, r.within) in
    record { front = front; t = t; back = back; parts = parts; most_is = most_is; place = place; live = there.0; within = within_front front (t ∷ []) there.1 }
past_tokens most tokens front back t at left parts most_is place (inr (inl r)) =
    let whole : front ++ t ∷ at ∷ [] ≡ r.front ++ r.back = r.parts in
    let count_left = length-append front (t ∷ at ∷ []) in
    let count_right = length-append r.front r.back in
    let counts = ap length whole in
    let place_is = r.place in
    let same = same_cut front (t ∷ at ∷ []) r.front r.back whole (omega (arith, count_left, count_right, counts, place_is)) in
    let P : List Token → Type 0 = λ xs. IsWithin xs × IsTooDeep xs r.back in
    let Q : List Token → Type 0 = λ xs. IsTooDeep front xs in
    let there : IsWithin front × IsTooDeep front r.back = subst P (sym same.0) (r.within, r.reason) in
    let deep : IsTooDeep front (t ∷ at ∷ []) = subst Q (sym same.1) there.1 in
    record { front = front; t = t; back = back; parts = parts; most_is = most_is; place = place; live = deep.0; within = there.0 }
past_tokens most tokens front back t at left parts most_is place (inr (inr r)) =
    let whole : front ++ t ∷ at ∷ [] ≡ r.front ++ r.back = r.parts in
    let count_left = length-append front (t ∷ at ∷ []) in
    let count_right = length-append r.front r.back in
    let counts = ap length whole in
    let place_is = r.place in
    let same = same_cut front (t ∷ at ∷ []) r.front r.back whole (omega (arith, count_left, count_right, counts, place_is)) in
    let P : List Token → Type 0 = λ xs. IsWithin xs × IsTooLong xs r.back in
    let Q : List Token → Type 0 = λ xs. IsTooLong front xs in
    let there : IsWithin front × IsTooLong front r.back = subst P (sym same.0) (r.within, r.reason) in
    let long : IsTooLong front (t ∷ at ∷ []) = subst Q (sym same.1) there.1 in
    record { front = front; t = t; back = back; parts = parts; most_is = most_is; place = place; live = long.0; within = there.0 }

-- A token that opens a bracket or begins a statement too many is no file's end.
deep_some : (front back : List Token) → IsTooDeep front back → 0 < length back
deep_some front [] h = absurd h
deep_some front (t ∷ back) h = omega arith

long_some : (front back : List Token) → IsTooLong front back → 0 < length back
long_some front [] h = absurd h
long_some front (t ∷ back) h = omega arith

wrong_early : (most : ℕ) (tokens : List Token) (rule : Rule) (left : ℕ) → IsRefused tokens rule left → length tokens ≤ most + left → (0 < left → length tokens < most + left) → IsWrong most tokens rule left
wrong_early most tokens S5 left r few soon = (r, few)
wrong_early most tokens S6 left r few soon = (r, few)
wrong_early most tokens L4 left r few soon =
    let some = deep_some r.front r.back r.reason in
    let place = r.place in
    (r, soon (omega (arith, some, place)))
wrong_early most tokens L5 left r few soon =
    let some = long_some r.front r.back r.reason in
    let place = r.place in
    (r, soon (omega (arith, some, place)))
wrong_early most tokens _ left r few soon = absurd r.reason

wrong_at_limit : (most : ℕ) (tokens : List Token) (rule : Rule) (left : ℕ) → is_wrong rule ≡ true → IsRefused tokens rule left → length tokens ≤ most + left → IsWrong most tokens rule left
unfolding is_wrong
wrong_at_limit most tokens S5 left w r few = (r, few)
wrong_at_limit most tokens S6 left w r few = (r, few)
wrong_at_limit most tokens _ left w r few = absurd (cc w)

-- What the machine refuses is wrong.
pub refused_is_wrong : (most : ℕ) (tokens : List Token) (before : List DeclTree) (rule : Rule) (left : ℕ) → read_file most tokens before ≡ Refused rule left → IsWrong most tokens rule left
refused_is_wrong most tokens before rule left e = by_case (reading_refused most 0 tokens (Read syms.File ∷ []) (record { vals = []; decls = before }) rule left e)
  where
    start : List Want
    start = Read syms.File ∷ []

    past_case : (front : List Token) (t at : Token) → (let made : Made = record { vals = []; decls = before } in ((q : Rule) × (run true 0 (front ++ t ∷ at ∷ []) (Read syms.File ∷ []) made ≡ Refused q 1)) ⊎ ((run true 0 (front ++ t ∷ at ∷ []) (Read syms.File ∷ []) made ≡ Refused L4 2) ⊎ (run true 0 (front ++ t ∷ at ∷ []) (Read syms.File ∷ []) made ≡ Refused L5 2)))
        → ((q : Rule) × IsRefused (front ++ t ∷ at ∷ []) q 1) ⊎ (IsRefused (front ++ t ∷ at ∷ []) L4 2 ⊎ IsRefused (front ++ t ∷ at ∷ []) L5 2)
    past_case front t at (inl x) = inl (x.0, built-refused 0 (front ++ t ∷ at ∷ []) before x.0 1 x.1)
    past_case front t at (inr (inl x)) = inr (inl (built-refused 0 (front ++ t ∷ at ∷ []) before L4 2 x))
    past_case front t at (inr (inr x)) = inr (inr (built-refused 0 (front ++ t ∷ at ∷ []) before L5 2 x))

    by_case : (let made : Made = record { vals = []; decls = before } in Early most 0 tokens (Read syms.File ∷ []) made rule left ⊎ (AtLimit most 0 tokens (Read syms.File ∷ []) made rule left ⊎ Past most 0 tokens (Read syms.File ∷ []) made rule left)) → IsWrong most tokens rule left
    by_case (inl x) = wrong_early most tokens rule left (built-refused 0 tokens before rule left x.refused) x.few x.soon
    by_case (inr (inl x)) = wrong_at_limit most tokens rule left x.wrong (built-refused 0 tokens before rule left x.refused) x.few
    by_case (inr (inr x)) =
        let P : Rule → Type 0 = λ r. IsWrong most tokens r left in
        subst P (sym x.rule_is) (past_tokens most tokens x.front x.back x.t x.at left x.parts x.most_is x.place (past_case x.front x.t x.at x.refused))

-- What it builds is accepted.
pub built_is_accepted : (most : ℕ) (tokens : List Token) (before : List DeclTree) (made : Made) → read_file most tokens before ≡ Built made
    → (trees : List DeclTree) × IsAccepted tokens trees × (made ≡ record { vals = []; decls = before ++ trees }) × (length tokens ≤ most)
built_is_accepted most tokens before made e =
    let within = reading_built most 0 tokens (Read syms.File ∷ []) (record { vals = []; decls = before }) made e in
    let accepted = built-accepted 0 tokens before made within.1 in
    (accepted.0, accepted.1, accepted.2, within.0)
