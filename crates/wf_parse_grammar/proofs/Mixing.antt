-- What is known of the tokens before a symbol: after which of them operators are refused for being mixed.
use Rattle.std.proofs.Common.{◌≡◌, ◌∙◌, ap, sym, subst, Bool, true, false, ◌&&◌, not, Option, None, Some, List, [], ◌∷◌, ◌++◌, refl, if◌then◌else◌, append_assoc, append-nil}
use Rattle.std.specs.Bool.{⊤}
use Rattle.wf_text.specs.declared.place.Place.{Place}
use Rattle.wf_text.specs.declared.rules.Rule.TheVariants.{S6}
use Rattle.wf_ast.specs.declared.operators.Op.{Op}
use Rattle.wf_ast.specs.Operators.{same_op}
use Rattle.wf_parse_grammar.specs.declared.tokens.Kind.{Kind}
use Rattle.wf_parse_grammar.specs.declared.tokens.Kind.TheVariants as kinds
use Rattle.wf_parse_grammar.specs.declared.tokens.Token.{Token}
use Rattle.wf_parse_grammar.specs.declared.symbols.Sym.{Sym}
use Rattle.wf_parse_grammar.specs.declared.symbols.Sym.TheVariants as syms
use Rattle.wf_parse_grammar.specs.Grammar.{token, Pair, Chained, Converted, LinksForm, NoLink, Link, OperandForm, expr_before, links_before, operand_before, type_before}
use Rattle.wf_parse_grammar.specs.Machine as m
use Rattle.wf_parse_grammar.specs.Machine.{Move, Take, Begin, Enter, Pass, Stop, move, may_end}
use Rattle.wf_parse_grammar.specs.Words.{Word, Words}
use Rattle.wf_parse_grammar.specs.Refusals.{is_operator, EndsInOperation}
use Rattle.wf_parse_grammar.specs.Feeding.{fed, feed, feeds, go_on}
use Rattle.wf_parse_grammar.proofs.OpLemmas.{same_op-true}
use Rattle.wf_parse_grammar.proofs.Back.{Back, OnTaken, back-operand}
use Rattle.wf_parse_grammar.proofs.Catenation.{more-expr, more-operand}
use Rattle.wf_parse_grammar.proofs.Completes.{absent}
use Rattle.wf_parse_grammar.proofs.Live.{OnPass, back, passes}
use Rattle.wf_parse_grammar.proofs.MixShapes.{is_plain, all_plain, is_mix, is_mild, mild-file, mild-decl, mild-fields_mark, mild-fields_open, mild-fields, mild-more_fields, mild-method_tail, mild-body, mild-type, mild-array_length, mild-base_name, mild-bounds, mild-vars, mild-more_vars, mild-block, mild-items, mild-more_items, mild-path_stmt, mild-this_stmt, mild-target_stmt, mild-call, mild-call_this, mild-call_mark, mild-else, mild-else_tail, mild-label_head, mild-clauses, mild-clause_tail, mild-end_part, mild-label_part, mild-via, mild-operand, mild-atom, mild-path_atom, mild-this_atom, mild-cut_tail, mild-call_open, mild-givens_open, mild-givens, mild-more_givens, mild-name, mild-text, mild-dot, mild-colon, mild-semicolon, mild-equals, mild-question, mild-dots_equals, mild-right_round, mild-right_square, mild-other_fields, mild-end_label, mild-label}

-- What is known where a symbol is wanted, of the tokens before it.
pub record EndsInOperand (tokens : List Token) : Type 0 where
  pub before : List Token
  pub operand : OperandForm
  pub parts : tokens ≡ before ++ operand_before operand []

pub record EndsInChain (op : Op) (tokens : List Token) : Type 0 where
  pub before : List Token
  pub first : OperandForm
  pub sign : Place
  pub second : OperandForm
  pub others : LinksForm
  pub parts : tokens ≡ before ++ expr_before (Chained first op sign second others) []

abbrev pub Here : Sym → List Token → Type 0
Here syms.Rest f = EndsInOperand f
Here (syms.Links op) f = EndsInChain op f
Here syms.End f = EndsInOperation f
Here _ f = ⊤

abbrev pub IsWord : Sym → List Token → Type 0
IsWord s x = (rest : List Token) → Word s (x ++ rest) rest

abbrev AreWords : List Sym → List Token → Type 0
AreWords xs ws = (rest : List Token) → Words xs (ws ++ rest) rest

-- The same of all that is wanted, whatever tokens will have completed what stands above.
abbrev pub Known : List Sym → List Token → Type 0
Known [] f = ⊤
Known (s ∷ k) f = Here s f × ((x : List Token) → IsWord s x → Known k (f ++ x))

plain-here : (s : Sym) (f : List Token) → is_plain s ≡ true → Here s f
plain-here syms.Rest f h = absurd (cc h)
plain-here (syms.Links op) f h = absurd (cc h)
plain-here syms.End f h = absurd (cc h)
plain-here _ f h = tt

split-and : (a b : Bool) → (a && b) ≡ true → (a ≡ true) × (b ≡ true)
split-and true b h = (refl, h)
split-and false b h = absurd (cc h)

word-words : (x : Sym) (xs : List Sym) (v ws : List Token) → IsWord x v → AreWords xs ws → AreWords (x ∷ xs) (v ++ ws)
word-words x xs v ws i a rest =
    let P : List Token → Type 0 = λ ts. Word x ts (ws ++ rest) in
    (ws ++ rest, subst P (sym (append_assoc v ws rest)) (i (ws ++ rest)), a rest)

-- What is wanted before more: where it is completed, what is known of the more.
pub known-then : (xs k : List Sym) (f : List Token) → Known xs f → ((ws : List Token) → AreWords xs ws → Known k (f ++ ws)) → Known (xs ++ k) f
known-then [] k f h g = let P : List Token → Type 0 = λ ts. Known k ts in subst P (append-nil f) (g [] (λ rest. refl))
known-then (x ∷ xs) k f h g =
    (h.0, λ v i. known-then xs k (f ++ v) (h.1 v i) (λ ws a. let P : List Token → Type 0 = λ ts. Known k ts in subst P (sym (append_assoc f v ws)) (g (v ++ ws) (word-words x xs v ws i a))))

plain-known : (xs : List Sym) (f : List Token) → all_plain xs ≡ true → Known xs f
plain-known [] f h = tt
plain-known (x ∷ xs) f h =
    let c = split-and (is_plain x) (all_plain xs) h in
    (plain-here x f c.0, λ v i. plain-known xs (f ++ v) c.1)

plain-more : (xs zs : List Sym) (f : List Token) → Known xs f → all_plain zs ≡ true → Known (xs ++ zs) f
plain-more xs zs f h p = known-then xs zs f h (λ ws a. plain-known zs (f ++ ws) p)

-- What a move tells of what it wants.
abbrev Tells : Sym → Move → Token → Type 0
Tells s w t = OnTaken w (λ xs. (f : List Token) → Here s f → Known xs (f ++ t ∷ []))

mild-tells : (s : Sym) (w : Move) (t : Token) → is_mild w ≡ true → Tells s w t
mild-tells s (Take xs) t h = λ f e. plain-known xs (f ++ t ∷ []) h
mild-tells s (Begin xs) t h = λ f e. plain-known xs (f ++ t ∷ []) h
mild-tells s (Enter xs) t h = λ f e. plain-known xs (f ++ t ∷ []) h
mild-tells s Pass t h = tt
mild-tells s (Stop r) t h = tt

-- the tokens after others, the last of which is an operand's first
operand-ends : (f ws : List Token) (t : Token) → Word syms.Operand (t ∷ (ws ++ [])) [] → EndsInOperand ((f ++ t ∷ []) ++ ws)
operand-ends f ws t d = record {
  before = f;
  operand = d.0;
  parts = append_assoc f (t ∷ []) ws ∙ ap (λ us. f ++ us) (ap (λ us. t ∷ us) (sym (append-nil ws)) ∙ d.1);
}

rest-known : (xs : List Sym) (t : Token) → all_plain xs ≡ true → ((ts rest : List Token) → Words xs ts rest → Word syms.Operand (t ∷ ts) rest)
    → (f : List Token) → Known (xs ++ syms.Rest ∷ []) (f ++ t ∷ [])
rest-known xs t h b f = known-then xs (syms.Rest ∷ []) (f ++ t ∷ []) (plain-known xs (f ++ t ∷ []) h) (λ ws a. (operand-ends f ws t (b (ws ++ []) [] (a [])), λ x i. tt))

expr-tells : (w : Move) (t : Token) → is_mild w ≡ true → Back syms.Operand w t → Tells syms.Expr (m.followed w (syms.Rest ∷ [])) t
expr-tells (Take xs) t h b = λ f e. rest-known xs t h b f
expr-tells (Begin xs) t h b = λ f e. rest-known xs t h b f
expr-tells (Enter xs) t h b = λ f e. rest-known xs t h b f
expr-tells Pass t h b = tt
expr-tells (Stop r) t h b = tt

tells-expr : (k : Kind) (p : Place) → Tells syms.Expr (m.expr_move k) (token k p)
tells-expr k p = expr-tells (m.operand_move k) (token k p) (mild-operand k) (back-operand k p)

more-tells : (s : Sym) (w : Move) (t : Token) (zs : List Sym) → all_plain zs ≡ true → is_plain s ≡ true → Tells syms.Expr w t → Tells s (m.followed w zs) t
more-tells s (Take xs) t zs p q h = λ f e. plain-more xs zs (f ++ t ∷ []) (h f tt) p
more-tells s (Begin xs) t zs p q h = λ f e. plain-more xs zs (f ++ t ∷ []) (h f tt) p
more-tells s (Enter xs) t zs p q h = λ f e. plain-more xs zs (f ++ t ∷ []) (h f tt) p
more-tells s Pass t zs p q h = tt
more-tells s (Stop r) t zs p q h = tt

tells-cut : (k : Kind) (p : Place) → Tells syms.Cut (m.cut_move k) (token k p)
tells-cut kinds.Dots p = λ f e. plain-known (syms.CutEnd ∷ []) (f ++ token kinds.Dots p ∷ []) refl
tells-cut k p = more-tells syms.Cut (m.expr_move k) (token k p) (syms.CutTail ∷ []) refl refl (tells-expr k p)

tells-cut_end : (k : Kind) (p : Place) → Tells syms.CutEnd (m.cut_end_move k) (token k p)
tells-cut_end kinds.CloseSquare p = λ f e. tt
tells-cut_end k p = more-tells syms.CutEnd (m.expr_move k) (token k p) (syms.RightSquare ∷ []) refl refl (tells-expr k p)

tells-low : (k : Kind) (p : Place) → Tells syms.Low (m.low_move k) (token k p)
tells-low kinds.DotsEquals p = λ f e. plain-known (syms.Expr ∷ syms.RightSquare ∷ []) (f ++ token kinds.DotsEquals p ∷ []) refl
tells-low k p = more-tells syms.Low (m.expr_move k) (token k p) (syms.ADotsEquals ∷ syms.Expr ∷ syms.RightSquare ∷ []) refl refl (tells-expr k p)

tells-while : (k : Kind) (p : Place) → Tells syms.WhileHead (m.while_move k) (token k p)
tells-while kinds.Dot p = λ f e. plain-known (syms.LabelHead ∷ []) (f ++ token kinds.Dot p ∷ []) refl
tells-while k p = more-tells syms.WhileHead (m.expr_move k) (token k p) (syms.Clauses ∷ syms.EndPart ∷ []) refl refl (tells-expr k p)

or_pass-tells : (w : Move) (t : Token) → Tells syms.Expr w t → Tells syms.Result (m.or_pass w) t
or_pass-tells (Take xs) t h = h
or_pass-tells (Begin xs) t h = h
or_pass-tells (Enter xs) t h = h
or_pass-tells Pass t h = tt
or_pass-tells (Stop r) t h = tt

tells-result : (k : Kind) (p : Place) → Tells syms.Result (m.result_move k) (token k p)
tells-result kinds.Nothing p = λ f e. tt
tells-result k p = or_pass-tells (m.expr_move k) (token k p) (tells-expr k p)

-- After an operator: a token and more after what a form ends in.
grown : (base : List Token → List Token) (f before : List Token) (t : Token) (x : List Token) → f ≡ before ++ base [] → base (t ∷ x) ≡ base [] ++ t ∷ x → (f ++ t ∷ []) ++ x ≡ before ++ base (t ∷ x)
grown base f before t x e g =
    append_assoc f (t ∷ []) x ∙ ap (λ us. us ++ t ∷ x) e ∙ append_assoc before (base []) (t ∷ x) ∙ ap (λ us. before ++ us) (sym g)

word-is : (x : List Token) (ts : List Token) → x ++ [] ≡ ts → x ≡ ts
word-is x ts e = sym (append-nil x) ∙ e

chain-ends : (op : Op) (p : Place) (f x : List Token) (h : EndsInOperand f) → IsWord syms.Operand x → EndsInChain op ((f ++ token (kinds.Chain op) p ∷ []) ++ x)
chain-ends op p f x h i = record {
  before = h.before;
  first = h.operand;
  sign = p;
  second = (i []).0;
  others = NoLink;
  parts = grown (operand_before h.operand) f h.before (token (kinds.Chain op) p) x h.parts (more-operand h.operand [] (token (kinds.Chain op) p ∷ x))
      ∙ ap (λ us. h.before ++ operand_before h.operand (token (kinds.Chain op) p ∷ us)) (word-is x (operand_before (i []).0 []) (i []).1);
}

pair-ends : (op : Op) (p : Place) (f x : List Token) (h : EndsInOperand f) → IsWord syms.Operand x → EndsInOperation ((f ++ token (kinds.Binary op) p ∷ []) ++ x)
pair-ends op p f x h i = record {
  before = h.before;
  expr = Pair h.operand op p (i []).0;
  operation = tt;
  parts = grown (operand_before h.operand) f h.before (token (kinds.Binary op) p) x h.parts (more-operand h.operand [] (token (kinds.Binary op) p ∷ x))
      ∙ ap (λ us. h.before ++ operand_before h.operand (token (kinds.Binary op) p ∷ us)) (word-is x (operand_before (i []).0 []) (i []).1);
}

conversion-ends : (p : Place) (f x : List Token) (h : EndsInOperand f) → IsWord syms.WholeType x → EndsInOperation ((f ++ token kinds.As p ∷ []) ++ x)
conversion-ends p f x h i = record {
  before = h.before;
  expr = Converted h.operand p (i []).0;
  operation = tt;
  parts = grown (operand_before h.operand) f h.before (token kinds.As p) x h.parts (more-operand h.operand [] (token kinds.As p ∷ x))
      ∙ ap (λ us. h.before ++ operand_before h.operand (token kinds.As p ∷ us)) (word-is x (type_before (i []).0 []) (i []).1);
}

tells-rest : (k : Kind) (p : Place) → Tells syms.Rest (m.rest_move k) (token k p)
tells-rest (kinds.Chain op) p = λ f h. (tt, λ x i. (chain-ends op p f x h i, λ y j. tt))
tells-rest (kinds.Binary op) p = λ f h. (tt, λ x i. (pair-ends op p f x h i, λ y j. tt))
tells-rest kinds.As p = λ f h. (tt, λ x i. (conversion-ends p f x h i, λ y j. tt))
tells-rest _ p = tt

-- one operand more in a chain
abbrev one_more : LinksForm → Place → OperandForm → LinksForm
one_more NoLink p a = Link p a NoLink
one_more (Link q b ls) p a = Link q b (one_more ls p a)

one_more-tokens : (ls : LinksForm) (p : Place) (a : OperandForm) (op : Op) (rest : List Token) → links_before (one_more ls p a) op rest ≡ links_before ls op (token (kinds.Chain op) p ∷ operand_before a rest)
one_more-tokens NoLink p a op rest = refl
one_more-tokens (Link q b ls) p a op rest = ap (λ us. token (kinds.Chain op) q ∷ operand_before b us) (one_more-tokens ls p a op rest)

longer-ends : (op : Op) (p : Place) (f x : List Token) (h : EndsInChain op f) → IsWord syms.Operand x → EndsInChain op ((f ++ token (kinds.Chain op) p ∷ []) ++ x)
longer-ends op p f x h i =
    let e = Chained h.first op h.sign h.second h.others in
    let c = (i []).0 in
    record {
      before = h.before;
      first = h.first;
      sign = h.sign;
      second = h.second;
      others = one_more h.others p c;
      parts = grown (expr_before e) f h.before (token (kinds.Chain op) p) x h.parts (more-expr e [] (token (kinds.Chain op) p ∷ x))
          ∙ ap (λ us. h.before ++ expr_before e (token (kinds.Chain op) p ∷ us)) (word-is x (operand_before c []) (i []).1)
          ∙ ap (λ us. h.before ++ operand_before h.first (token (kinds.Chain op) h.sign ∷ operand_before h.second us)) (sym (one_more-tokens h.others p c op []));
    }

tells-link : (c : Bool) (op next : Op) (p : Place) → same_op op next ≡ c
    → Tells (syms.Links op) (if c then Take (syms.Operand ∷ syms.Links op ∷ []) else m.wrong_mix) (token (kinds.Chain next) p)
tells-link true op next p e =
    let q : op ≡ next = same_op-true op next e in
    let P : Op → Type 0 = λ o. (f : List Token) → EndsInChain op f → Known (syms.Operand ∷ syms.Links op ∷ []) (f ++ token (kinds.Chain o) p ∷ []) in
    subst P q (λ f h. (tt, λ x i. (longer-ends op p f x h i, λ y j. tt)))
tells-link false op next p e = tt

tells-links : (op : Op) (k : Kind) (p : Place) → Tells (syms.Links op) (m.links_move op k) (token k p)
tells-links op (kinds.Chain next) p = tells-link (same_op op next) op next p refl
tells-links op _ p = tt

tells-end : (k : Kind) (p : Place) → Tells syms.End (m.end_move k) (token k p)
tells-end kinds.Bad p = tt
tells-end _ p = tt

tells : (s : Sym) (k : Kind) (p : Place) → Tells s (move s k) (token k p)
tells syms.File k p = mild-tells syms.File (move syms.File k) (token k p) (mild-file k)
tells syms.Decl k p = mild-tells syms.Decl (move syms.Decl k) (token k p) (mild-decl k)
tells syms.FieldsMark k p = mild-tells syms.FieldsMark (move syms.FieldsMark k) (token k p) (mild-fields_mark k)
tells syms.FieldsOpen k p = mild-tells syms.FieldsOpen (move syms.FieldsOpen k) (token k p) (mild-fields_open k)
tells syms.Fields k p = mild-tells syms.Fields (move syms.Fields k) (token k p) (mild-fields k)
tells syms.MoreFields k p = mild-tells syms.MoreFields (move syms.MoreFields k) (token k p) (mild-more_fields k)
tells syms.OtherFields k p = mild-tells syms.OtherFields (move syms.OtherFields k) (token k p) (mild-other_fields k)
tells syms.MethodTail k p = mild-tells syms.MethodTail (move syms.MethodTail k) (token k p) (mild-method_tail k)
tells syms.Body k p = mild-tells syms.Body (move syms.Body k) (token k p) (mild-body k)
tells syms.WholeType k p = mild-tells syms.WholeType (move syms.WholeType k) (token k p) (mild-type k)
tells syms.ArrayLength k p = mild-tells syms.ArrayLength (move syms.ArrayLength k) (token k p) (mild-array_length k)
tells syms.BaseName k p = mild-tells syms.BaseName (move syms.BaseName k) (token k p) (mild-base_name k)
tells syms.BoundsPart k p = mild-tells syms.BoundsPart (move syms.BoundsPart k) (token k p) (mild-bounds k)
tells syms.Low k p = tells-low k p
tells syms.Vars k p = mild-tells syms.Vars (move syms.Vars k) (token k p) (mild-vars k)
tells syms.MoreVars k p = mild-tells syms.MoreVars (move syms.MoreVars k) (token k p) (mild-more_vars k)
tells syms.Block k p = mild-tells syms.Block (move syms.Block k) (token k p) (mild-block k)
tells syms.Items k p = mild-tells syms.Items (move syms.Items k) (token k p) (mild-items k)
tells syms.MoreItems k p = mild-tells syms.MoreItems (move syms.MoreItems k) (token k p) (mild-more_items k)
tells syms.PathStmt k p = mild-tells syms.PathStmt (move syms.PathStmt k) (token k p) (mild-path_stmt k)
tells syms.ThisStmt k p = mild-tells syms.ThisStmt (move syms.ThisStmt k) (token k p) (mild-this_stmt k)
tells syms.TargetStmt k p = mild-tells syms.TargetStmt (move syms.TargetStmt k) (token k p) (mild-target_stmt k)
tells syms.Call k p = mild-tells syms.Call (move syms.Call k) (token k p) (mild-call k)
tells syms.CallThis k p = mild-tells syms.CallThis (move syms.CallThis k) (token k p) (mild-call_this k)
tells syms.CallMark k p = mild-tells syms.CallMark (move syms.CallMark k) (token k p) (mild-call_mark k)
tells syms.Else k p = mild-tells syms.Else (move syms.Else k) (token k p) (mild-else k)
tells syms.ElseTail k p = mild-tells syms.ElseTail (move syms.ElseTail k) (token k p) (mild-else_tail k)
tells syms.WhileHead k p = tells-while k p
tells syms.LabelHead k p = mild-tells syms.LabelHead (move syms.LabelHead k) (token k p) (mild-label_head k)
tells syms.Clauses k p = mild-tells syms.Clauses (move syms.Clauses k) (token k p) (mild-clauses k)
tells syms.ClauseTail k p = mild-tells syms.ClauseTail (move syms.ClauseTail k) (token k p) (mild-clause_tail k)
tells syms.EndPart k p = mild-tells syms.EndPart (move syms.EndPart k) (token k p) (mild-end_part k)
tells (syms.EndLabel label) k p = mild-tells (syms.EndLabel label) (move (syms.EndLabel label) k) (token k p) (mild-end_label label k)
tells (syms.Label label) k p = mild-tells (syms.Label label) (move (syms.Label label) k) (token k p) (mild-label label k)
tells syms.LabelPart k p = mild-tells syms.LabelPart (move syms.LabelPart k) (token k p) (mild-label_part k)
tells syms.Result k p = tells-result k p
tells syms.Via k p = mild-tells syms.Via (move syms.Via k) (token k p) (mild-via k)
tells syms.Expr k p = tells-expr k p
tells syms.Rest k p = tells-rest k p
tells (syms.Links op) k p = tells-links op k p
tells syms.End k p = tells-end k p
tells syms.Operand k p = mild-tells syms.Operand (move syms.Operand k) (token k p) (mild-operand k)
tells syms.Atom k p = mild-tells syms.Atom (move syms.Atom k) (token k p) (mild-atom k)
tells syms.PathAtom k p = mild-tells syms.PathAtom (move syms.PathAtom k) (token k p) (mild-path_atom k)
tells syms.ThisAtom k p = mild-tells syms.ThisAtom (move syms.ThisAtom k) (token k p) (mild-this_atom k)
tells syms.Cut k p = tells-cut k p
tells syms.CutTail k p = mild-tells syms.CutTail (move syms.CutTail k) (token k p) (mild-cut_tail k)
tells syms.CutEnd k p = tells-cut_end k p
tells syms.CallOpen k p = mild-tells syms.CallOpen (move syms.CallOpen k) (token k p) (mild-call_open k)
tells syms.GivensOpen k p = mild-tells syms.GivensOpen (move syms.GivensOpen k) (token k p) (mild-givens_open k)
tells syms.Givens k p = mild-tells syms.Givens (move syms.Givens k) (token k p) (mild-givens k)
tells syms.MoreGivens k p = mild-tells syms.MoreGivens (move syms.MoreGivens k) (token k p) (mild-more_givens k)
tells syms.AName k p = mild-tells syms.AName (move syms.AName k) (token k p) (mild-name k)
tells syms.AText k p = mild-tells syms.AText (move syms.AText k) (token k p) (mild-text k)
tells syms.ADot k p = mild-tells syms.ADot (move syms.ADot k) (token k p) (mild-dot k)
tells syms.AColon k p = mild-tells syms.AColon (move syms.AColon k) (token k p) (mild-colon k)
tells syms.ASemicolon k p = mild-tells syms.ASemicolon (move syms.ASemicolon k) (token k p) (mild-semicolon k)
tells syms.AnEquals k p = mild-tells syms.AnEquals (move syms.AnEquals k) (token k p) (mild-equals k)
tells syms.AQuestion k p = mild-tells syms.AQuestion (move syms.AQuestion k) (token k p) (mild-question k)
tells syms.ADotsEquals k p = mild-tells syms.ADotsEquals (move syms.ADotsEquals k) (token k p) (mild-dots_equals k)
tells syms.RightRound k p = mild-tells syms.RightRound (move syms.RightRound k) (token k p) (mild-right_round k)
tells syms.RightSquare k p = mild-tells syms.RightSquare (move syms.RightSquare k) (token k p) (mild-right_square k)

-- One token, and many.
taken-known : (s : Sym) (xs : List Sym) (t : Token) (k next : List Sym) (f : List Token) → Known xs (f ++ t ∷ []) → ((ts rest : List Token) → Words xs ts rest → Word s (t ∷ ts) rest)
    → Known (s ∷ k) f → xs ++ k ≡ next → Known next (f ++ t ∷ [])
taken-known s xs t k next f h b d e =
    let P : List Token → Type 0 = λ ts. Known k ts in
    let Q : List Sym → Type 0 = λ j. Known j (f ++ t ∷ []) in
    subst Q e (known-then xs k (f ++ t ∷ []) h (λ ws a. subst P (sym (append_assoc f (t ∷ []) ws)) (d.1 (t ∷ ws) (λ rest. b (ws ++ rest) rest (a rest)))))

fed-known : (s : Sym) (w : Move) (t : Token) (k : List Sym) (passed : Option (List Sym)) (next : List Sym) (f : List Token) → Tells s w t → Back s w t → OnPass w (may_end s ≡ true)
    → Known (s ∷ k) f → (Known k f → passed ≡ Some next → Known next (f ++ t ∷ [])) → fed w k passed ≡ Some next → Known next (f ++ t ∷ [])
fed-known s (Take xs) t k passed next f h b a d g e = taken-known s xs t k next f (h f d.0) b d (cc e)
fed-known s (Begin xs) t k passed next f h b a d g e = taken-known s xs t k next f (h f d.0) b d (cc e)
fed-known s (Enter xs) t k passed next f h b a d g e = taken-known s xs t k next f (h f d.0) b d (cc e)
fed-known s Pass t k passed next f h b a d g e =
    let P : List Token → Type 0 = λ ts. Known k ts in
    g (subst P (append-nil f) (d.1 [] (λ rest. absent s a rest))) e
fed-known s (Stop r) t k passed next f h b a d g e = absurd (cc e)

feed-known : (k : List Sym) (t : Token) (next : List Sym) (f : List Token) → Known k f → feed k t.kind ≡ Some next → Known next (f ++ t ∷ [])
feed-known [] t next f d e = absurd (cc e)
feed-known (s ∷ k) t next f d e =
    fed-known s (move s t.kind) t k (feed k t.kind) next f (tells s t.kind t.at) (back s t.kind t.at) (passes s t.kind) d (λ c g. feed-known k t next f c g) e

go-known : (o : Option (List Sym)) (t : Token) (ts : List Token) (k next : List Sym) (f : List Token) → feed k t.kind ≡ o → Known k f
    → ((j : List Sym) → Known j (f ++ t ∷ []) → feeds ts j ≡ Some next → Known next ((f ++ t ∷ []) ++ ts))
    → go_on o (λ j. feeds ts j) ≡ Some next → Known next (f ++ t ∷ ts)
go-known None t ts k next f e d g h = absurd (cc h)
go-known (Some j) t ts k next f e d g h = let P : List Token → Type 0 = λ us. Known next us in subst P (append_assoc f (t ∷ []) ts) (g j (feed-known k t j f d e) h)

feeds-known : (ts : List Token) (k next : List Sym) (f : List Token) → Known k f → feeds ts k ≡ Some next → Known next (f ++ ts)
feeds-known [] k next f d e =
    let q : k ≡ next = cc e in
    let P : List Token → Type 0 = λ us. Known next us in
    let Q : List Sym → Type 0 = λ j. Known j f in
    subst P (sym (append-nil f)) (subst Q q d)
feeds-known (t ∷ ts) k next f d e = go-known (feed k t.kind) t ts k next f refl d (λ j c h. feeds-known ts j next (f ++ t ∷ []) c h) e

pub front-known : (front : List Token) (wanted : List Sym) → feeds front (syms.File ∷ []) ≡ Some wanted → Known wanted front
front-known front wanted e = feeds-known front (syms.File ∷ []) wanted [] (tt, λ x i. tt) e

-- No symbol but those after an operation refuses a mix.
abbrev pub mixes_not : Move → Bool
mixes_not (Stop r) = not (is_mix r)
mixes_not _ = true

mild-not : (w : Move) → is_mild w ≡ true → mixes_not w ≡ true
mild-not (Take xs) h = refl
mild-not (Begin xs) h = refl
mild-not (Enter xs) h = refl
mild-not Pass h = refl
mild-not (Stop r) h = h

followed-not : (w : Move) (ys : List Sym) → mixes_not w ≡ true → mixes_not (m.followed w ys) ≡ true
followed-not (Take xs) ys h = refl
followed-not (Begin xs) ys h = refl
followed-not (Enter xs) ys h = refl
followed-not Pass ys h = refl
followed-not (Stop r) ys h = h

or_pass-not : (w : Move) → mixes_not w ≡ true → mixes_not (m.or_pass w) ≡ true
or_pass-not (Take xs) h = refl
or_pass-not (Begin xs) h = refl
or_pass-not (Enter xs) h = refl
or_pass-not Pass h = refl
or_pass-not (Stop r) h = refl

not-expr : (t : Kind) → mixes_not (m.expr_move t) ≡ true
not-expr t = followed-not (m.operand_move t) (syms.Rest ∷ []) (mild-not (m.operand_move t) (mild-operand t))

not-cut : (t : Kind) → mixes_not (m.cut_move t) ≡ true
not-cut kinds.Dots = refl
not-cut t = followed-not (m.expr_move t) (syms.CutTail ∷ []) (not-expr t)

not-cut_end : (t : Kind) → mixes_not (m.cut_end_move t) ≡ true
not-cut_end kinds.CloseSquare = refl
not-cut_end t = followed-not (m.expr_move t) (syms.RightSquare ∷ []) (not-expr t)

not-low : (t : Kind) → mixes_not (m.low_move t) ≡ true
not-low kinds.DotsEquals = refl
not-low t = followed-not (m.expr_move t) (syms.ADotsEquals ∷ syms.Expr ∷ syms.RightSquare ∷ []) (not-expr t)

not-while : (t : Kind) → mixes_not (m.while_move t) ≡ true
not-while kinds.Dot = refl
not-while t = followed-not (m.expr_move t) (syms.Clauses ∷ syms.EndPart ∷ []) (not-expr t)

not-result : (t : Kind) → mixes_not (m.result_move t) ≡ true
not-result kinds.Nothing = refl
not-result t = or_pass-not (m.expr_move t) (not-expr t)

not-rest : (t : Kind) → mixes_not (m.rest_move t) ≡ true
not-rest kinds.As = refl
not-rest _ = refl

-- Where a symbol refuses a mix, the token is an operator after an operation.
abbrev pub IsMix : Sym → Kind → Move → Type 0
IsMix s t (Stop S6) = (is_operator t ≡ true) × ((f : List Token) → Here s f → EndsInOperation f)
IsMix s t _ = ⊤

not-mix : (s : Sym) (t : Kind) (w : Move) → mixes_not w ≡ true → IsMix s t w
not-mix s t (Take xs) h = tt
not-mix s t (Begin xs) h = tt
not-mix s t (Enter xs) h = tt
not-mix s t Pass h = tt
not-mix s t (Stop S6) h = absurd (cc h)
not-mix s t (Stop _) h = tt

chain-operation : (op : Op) (f : List Token) → EndsInChain op f → EndsInOperation f
chain-operation op f h = record { before = h.before; expr = Chained h.first op h.sign h.second h.others; operation = tt; parts = h.parts }

mix-end : (t : Kind) → IsMix syms.End t (m.end_move t)
mix-end (kinds.Chain op) = (refl, λ f h. h)
mix-end (kinds.Binary op) = (refl, λ f h. h)
mix-end kinds.As = (refl, λ f h. h)
mix-end _ = tt

mix-link : (c : Bool) (op next : Op) → IsMix (syms.Links op) (kinds.Chain next) (if c then Take (syms.Operand ∷ syms.Links op ∷ []) else m.wrong_mix)
mix-link true op next = tt
mix-link false op next = (refl, λ f h. chain-operation op f h)

mix-links : (op : Op) (t : Kind) → IsMix (syms.Links op) t (m.links_move op t)
mix-links op (kinds.Chain next) = mix-link (same_op op next) op next
mix-links op (kinds.Binary next) = (refl, λ f h. chain-operation op f h)
mix-links op kinds.As = (refl, λ f h. chain-operation op f h)
mix-links op _ = tt

pub all_mix : (s : Sym) (t : Kind) → IsMix s t (move s t)
all_mix syms.File t = not-mix syms.File t (move syms.File t) (mild-not (move syms.File t) (mild-file t))
all_mix syms.Decl t = not-mix syms.Decl t (move syms.Decl t) (mild-not (move syms.Decl t) (mild-decl t))
all_mix syms.FieldsMark t = not-mix syms.FieldsMark t (move syms.FieldsMark t) (mild-not (move syms.FieldsMark t) (mild-fields_mark t))
all_mix syms.FieldsOpen t = not-mix syms.FieldsOpen t (move syms.FieldsOpen t) (mild-not (move syms.FieldsOpen t) (mild-fields_open t))
all_mix syms.Fields t = not-mix syms.Fields t (move syms.Fields t) (mild-not (move syms.Fields t) (mild-fields t))
all_mix syms.MoreFields t = not-mix syms.MoreFields t (move syms.MoreFields t) (mild-not (move syms.MoreFields t) (mild-more_fields t))
all_mix syms.OtherFields t = not-mix syms.OtherFields t (move syms.OtherFields t) (mild-not (move syms.OtherFields t) (mild-other_fields t))
all_mix syms.MethodTail t = not-mix syms.MethodTail t (move syms.MethodTail t) (mild-not (move syms.MethodTail t) (mild-method_tail t))
all_mix syms.Body t = not-mix syms.Body t (move syms.Body t) (mild-not (move syms.Body t) (mild-body t))
all_mix syms.WholeType t = not-mix syms.WholeType t (move syms.WholeType t) (mild-not (move syms.WholeType t) (mild-type t))
all_mix syms.ArrayLength t = not-mix syms.ArrayLength t (move syms.ArrayLength t) (mild-not (move syms.ArrayLength t) (mild-array_length t))
all_mix syms.BaseName t = not-mix syms.BaseName t (move syms.BaseName t) (mild-not (move syms.BaseName t) (mild-base_name t))
all_mix syms.BoundsPart t = not-mix syms.BoundsPart t (move syms.BoundsPart t) (mild-not (move syms.BoundsPart t) (mild-bounds t))
all_mix syms.Low t = not-mix syms.Low t (move syms.Low t) (not-low t)
all_mix syms.Vars t = not-mix syms.Vars t (move syms.Vars t) (mild-not (move syms.Vars t) (mild-vars t))
all_mix syms.MoreVars t = not-mix syms.MoreVars t (move syms.MoreVars t) (mild-not (move syms.MoreVars t) (mild-more_vars t))
all_mix syms.Block t = not-mix syms.Block t (move syms.Block t) (mild-not (move syms.Block t) (mild-block t))
all_mix syms.Items t = not-mix syms.Items t (move syms.Items t) (mild-not (move syms.Items t) (mild-items t))
all_mix syms.MoreItems t = not-mix syms.MoreItems t (move syms.MoreItems t) (mild-not (move syms.MoreItems t) (mild-more_items t))
all_mix syms.PathStmt t = not-mix syms.PathStmt t (move syms.PathStmt t) (mild-not (move syms.PathStmt t) (mild-path_stmt t))
all_mix syms.ThisStmt t = not-mix syms.ThisStmt t (move syms.ThisStmt t) (mild-not (move syms.ThisStmt t) (mild-this_stmt t))
all_mix syms.TargetStmt t = not-mix syms.TargetStmt t (move syms.TargetStmt t) (mild-not (move syms.TargetStmt t) (mild-target_stmt t))
all_mix syms.Call t = not-mix syms.Call t (move syms.Call t) (mild-not (move syms.Call t) (mild-call t))
all_mix syms.CallThis t = not-mix syms.CallThis t (move syms.CallThis t) (mild-not (move syms.CallThis t) (mild-call_this t))
all_mix syms.CallMark t = not-mix syms.CallMark t (move syms.CallMark t) (mild-not (move syms.CallMark t) (mild-call_mark t))
all_mix syms.Else t = not-mix syms.Else t (move syms.Else t) (mild-not (move syms.Else t) (mild-else t))
all_mix syms.ElseTail t = not-mix syms.ElseTail t (move syms.ElseTail t) (mild-not (move syms.ElseTail t) (mild-else_tail t))
all_mix syms.WhileHead t = not-mix syms.WhileHead t (move syms.WhileHead t) (not-while t)
all_mix syms.LabelHead t = not-mix syms.LabelHead t (move syms.LabelHead t) (mild-not (move syms.LabelHead t) (mild-label_head t))
all_mix syms.Clauses t = not-mix syms.Clauses t (move syms.Clauses t) (mild-not (move syms.Clauses t) (mild-clauses t))
all_mix syms.ClauseTail t = not-mix syms.ClauseTail t (move syms.ClauseTail t) (mild-not (move syms.ClauseTail t) (mild-clause_tail t))
all_mix syms.EndPart t = not-mix syms.EndPart t (move syms.EndPart t) (mild-not (move syms.EndPart t) (mild-end_part t))
all_mix (syms.EndLabel label) t = not-mix (syms.EndLabel label) t (move (syms.EndLabel label) t) (mild-not (move (syms.EndLabel label) t) (mild-end_label label t))
all_mix (syms.Label label) t = not-mix (syms.Label label) t (move (syms.Label label) t) (mild-not (move (syms.Label label) t) (mild-label label t))
all_mix syms.LabelPart t = not-mix syms.LabelPart t (move syms.LabelPart t) (mild-not (move syms.LabelPart t) (mild-label_part t))
all_mix syms.Result t = not-mix syms.Result t (move syms.Result t) (not-result t)
all_mix syms.Via t = not-mix syms.Via t (move syms.Via t) (mild-not (move syms.Via t) (mild-via t))
all_mix syms.Expr t = not-mix syms.Expr t (move syms.Expr t) (not-expr t)
all_mix syms.Rest t = not-mix syms.Rest t (move syms.Rest t) (not-rest t)
all_mix (syms.Links op) t = mix-links op t
all_mix syms.End t = mix-end t
all_mix syms.Operand t = not-mix syms.Operand t (move syms.Operand t) (mild-not (move syms.Operand t) (mild-operand t))
all_mix syms.Atom t = not-mix syms.Atom t (move syms.Atom t) (mild-not (move syms.Atom t) (mild-atom t))
all_mix syms.PathAtom t = not-mix syms.PathAtom t (move syms.PathAtom t) (mild-not (move syms.PathAtom t) (mild-path_atom t))
all_mix syms.ThisAtom t = not-mix syms.ThisAtom t (move syms.ThisAtom t) (mild-not (move syms.ThisAtom t) (mild-this_atom t))
all_mix syms.Cut t = not-mix syms.Cut t (move syms.Cut t) (not-cut t)
all_mix syms.CutTail t = not-mix syms.CutTail t (move syms.CutTail t) (mild-not (move syms.CutTail t) (mild-cut_tail t))
all_mix syms.CutEnd t = not-mix syms.CutEnd t (move syms.CutEnd t) (not-cut_end t)
all_mix syms.CallOpen t = not-mix syms.CallOpen t (move syms.CallOpen t) (mild-not (move syms.CallOpen t) (mild-call_open t))
all_mix syms.GivensOpen t = not-mix syms.GivensOpen t (move syms.GivensOpen t) (mild-not (move syms.GivensOpen t) (mild-givens_open t))
all_mix syms.Givens t = not-mix syms.Givens t (move syms.Givens t) (mild-not (move syms.Givens t) (mild-givens t))
all_mix syms.MoreGivens t = not-mix syms.MoreGivens t (move syms.MoreGivens t) (mild-not (move syms.MoreGivens t) (mild-more_givens t))
all_mix syms.AName t = not-mix syms.AName t (move syms.AName t) (mild-not (move syms.AName t) (mild-name t))
all_mix syms.AText t = not-mix syms.AText t (move syms.AText t) (mild-not (move syms.AText t) (mild-text t))
all_mix syms.ADot t = not-mix syms.ADot t (move syms.ADot t) (mild-not (move syms.ADot t) (mild-dot t))
all_mix syms.AColon t = not-mix syms.AColon t (move syms.AColon t) (mild-not (move syms.AColon t) (mild-colon t))
all_mix syms.ASemicolon t = not-mix syms.ASemicolon t (move syms.ASemicolon t) (mild-not (move syms.ASemicolon t) (mild-semicolon t))
all_mix syms.AnEquals t = not-mix syms.AnEquals t (move syms.AnEquals t) (mild-not (move syms.AnEquals t) (mild-equals t))
all_mix syms.AQuestion t = not-mix syms.AQuestion t (move syms.AQuestion t) (mild-not (move syms.AQuestion t) (mild-question t))
all_mix syms.ADotsEquals t = not-mix syms.ADotsEquals t (move syms.ADotsEquals t) (mild-not (move syms.ADotsEquals t) (mild-dots_equals t))
all_mix syms.RightRound t = not-mix syms.RightRound t (move syms.RightRound t) (mild-not (move syms.RightRound t) (mild-right_round t))
all_mix syms.RightSquare t = not-mix syms.RightSquare t (move syms.RightSquare t) (mild-not (move syms.RightSquare t) (mild-right_square t))
