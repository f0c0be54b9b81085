-- An operator is refused for being mixed exactly where it stands directly after an operation without parentheses.
use Rattle.std.proofs.Common.{◌≡◌, ◌∙◌, ap, sym, subst, ℕ, Bool, true, false, ◌&&◌, ◌⊎◌, inl, inr, Option, None, Some, List, [], ◌∷◌, ◌++◌, refl, nat_eq, nat_le, if◌then◌else◌, append-nil}
use Rattle.std.specs.Bool.{⊤}
use Rattle.wf_text.specs.declared.rules.Rule.{Rule}
use Rattle.wf_text.specs.declared.rules.Rule.TheVariants.{S6, L4, L5}
use Rattle.wf_ast.specs.declared.operators.Op.{Op}
use Rattle.wf_ast.specs.declared.operators.Op.TheVariants as ops
use Rattle.wf_ast.specs.Operators.{same_op}
use Rattle.wf_parse_grammar.specs.declared.tokens.Kind.{Kind}
use Rattle.wf_parse_grammar.specs.declared.tokens.Kind.TheVariants as kinds
use Rattle.wf_parse_grammar.specs.declared.tokens.Token.{Token}
use Rattle.wf_parse_grammar.specs.declared.symbols.Sym.{Sym}
use Rattle.wf_parse_grammar.specs.declared.symbols.Sym.TheVariants as syms
use Rattle.wf_parse_grammar.specs.Grammar.{token, name_token, BarePath, ThisPath, ArgsPath, OnThis, OnPath}
use Rattle.wf_parse_grammar.specs.Grammar.{ExprForm, Alone, Pair, Chained, Converted, LinksForm, NoLink, Link, OperandForm, Plain, Negated}
use Rattle.wf_parse_grammar.specs.Grammar.{AtomForm, ANumber, AText, ABaseText, AnOk, ATrue, AFalse, APath, Grouped, Indexed, Sliced, Called}
use Rattle.wf_parse_grammar.specs.Grammar.{TypeForm, BaseType, StatusType, SliceType, ArrayType, StructType, BoundsForm, NoBounds, Bounds}
use Rattle.wf_parse_grammar.specs.Grammar.{expr_before, links_before, operand_before, atom_before, type_before}
use Rattle.wf_parse_grammar.specs.Machine as m
use Rattle.wf_parse_grammar.specs.Machine.{Move, Take, Begin, Enter, Pass, Stop, move, may_end, opens, open_count}
use Rattle.wf_parse_grammar.specs.Feeding.{fed, feed, feeds, go_on}
use Rattle.wf_parse_grammar.specs.Refusals.{is_operator, IsOperation, EndsInOperation}
use Rattle.wf_parse_grammar.proofs.OpLemmas.{same_op-true}
use Rattle.wf_parse_grammar.proofs.Catenation.{more-operand}
use Rattle.wf_parse_grammar.proofs.Completes.{absent}
use Rattle.wf_parse_grammar.proofs.Live.{OnPass, passes}
use Rattle.wf_parse_grammar.proofs.StopRules.{is_wrong}
use Rattle.wf_parse_grammar.proofs.Forward.{operand_tail, links_tail, bounds_tail, type_tail, fw-operand, fw-links, fw-type}
use Rattle.wf_parse_grammar.proofs.Mixing.{Known, IsMix, all_mix}
use Rattle.wf_parse_grammar.proofs.Tracking.{Turn, Goes, Halts, halts_if, turned, turn}

-- Refused for being mixed, the token is an operator after an operation.
abbrev Mixed : Kind → List Token → Type 0
Mixed t f = (is_operator t ≡ true) × EndsInOperation f

if-mix : (b : Bool) (r : Rule) (room : ℕ) (wanted : List Sym) → is_wrong r ≡ false → halts_if b r (Goes room wanted) ≡ Halts S6 → ⊥
if-mix true r room wanted h e = let q : r ≡ S6 = cc e in let f : is_wrong S6 ≡ false = ap is_wrong (sym q) ∙ h in cc f
if-mix false r room wanted h e = cc e

move-mix : (s : Sym) (t : Kind) (w : Move) (k : List Sym) (room : ℕ) (x : Turn) (f : List Token) → IsMix s t w → OnPass w (may_end s ≡ true) → Known (s ∷ k) f
    → (Known k f → x ≡ Halts S6 → Mixed t f) → turned room w (s ∷ k) k t x ≡ Halts S6 → Mixed t f
move-mix s t (Take xs) k room x f h a d g e = absurd (if-mix (opens t && nat_le 48 (open_count (s ∷ k))) L4 room (xs ++ k) refl e)
move-mix s t (Begin xs) k room x f h a d g e = absurd (if-mix (nat_eq room 0) L5 _ (xs ++ k) refl e)
move-mix s t (Enter xs) k room x f h a d g e = absurd (if-mix (nat_le 48 (open_count (s ∷ k))) L4 4096 (xs ++ k) refl e)
move-mix s t Pass k room x f h a d g e =
    let P : List Token → Type 0 = λ ts. Known k ts in
    g (subst P (append-nil f) (d.1 [] (λ rest. absent s a rest))) e
move-mix s t (Stop S6) k room x f h a d g e = (h.0, h.1 f d.0)
move-mix s t (Stop _) k room x f h a d g e = absurd (cc e)

pub turn-mix : (k : List Sym) (t : Kind) (room : ℕ) (f : List Token) → Known k f → turn room k t ≡ Halts S6 → Mixed t f
turn-mix [] t room f d e = absurd (cc e)
turn-mix (s ∷ k) t room f d e = move-mix s t (move s t) k room (turn room k t) f (all_mix s t) (passes s t) d (λ c g. turn-mix k t room f c g) e

-- What refuses an operator refuses it for being mixed.
abbrev Mixes : List Sym → Type 0
Mixes k = (room : ℕ) (t : Kind) (r : Rule) → is_operator t ≡ true → is_wrong r ≡ true → turn room k t ≡ Halts r → r ≡ S6

same-mixes : (j k : List Sym) → ((room : ℕ) (t : Kind) → is_operator t ≡ true → turn room j t ≡ turn room k t) → Mixes k → Mixes j
same-mixes j k f h room t r o i e = h room t r o i (sym (f room t o) ∙ e)

mixes-end : (k : List Sym) → Mixes (syms.End ∷ k)
mixes-end k room (kinds.Chain op) r o i e = cc e
mixes-end k room (kinds.Binary op) r o i e = cc e
mixes-end k room kinds.As r o i e = cc e
mixes-end k room _ r o i e = absurd (cc o)

mixes-links : (op : Op) (k : List Sym) → Mixes (syms.Links op ∷ k)
mixes-links op k room (kinds.Chain next) r o i e = on-same (same_op op next) e
  where
    on-same : (c : Bool) → turned room (if c then Take (syms.Operand ∷ syms.Links op ∷ []) else m.wrong_mix) (syms.Links op ∷ k) k (kinds.Chain next) (turn room k (kinds.Chain next)) ≡ Halts r → r ≡ S6
    on-same true e = absurd (cc e)
    on-same false e = cc e
mixes-links op k room (kinds.Binary next) r o i e = cc e
mixes-links op k room kinds.As r o i e = cc e
mixes-links op k room _ r o i e = absurd (cc o)

pass-path : (k : List Sym) (room : ℕ) (t : Kind) → is_operator t ≡ true → turn room (syms.PathAtom ∷ k) t ≡ turn room k t
pass-path k room (kinds.Chain op) o = refl
pass-path k room (kinds.Binary op) o = refl
pass-path k room kinds.As o = refl
pass-path k room _ o = absurd (cc o)

pass-this : (k : List Sym) (room : ℕ) (t : Kind) → is_operator t ≡ true → turn room (syms.ThisAtom ∷ k) t ≡ turn room k t
pass-this k room (kinds.Chain op) o = refl
pass-this k room (kinds.Binary op) o = refl
pass-this k room kinds.As o = refl
pass-this k room _ o = absurd (cc o)

pass-bounds : (k : List Sym) (room : ℕ) (t : Kind) → is_operator t ≡ true → turn room (syms.BoundsPart ∷ k) t ≡ turn room k t
pass-bounds k room (kinds.Chain op) o = refl
pass-bounds k room (kinds.Binary op) o = refl
pass-bounds k room kinds.As o = refl
pass-bounds k room _ o = absurd (cc o)

pass-operand : (a : OperandForm) (k : List Sym) → Mixes k → Mixes (operand_tail a k)
pass-operand (Plain (APath (BarePath n))) k h = same-mixes (syms.PathAtom ∷ k) k (pass-path k) h
pass-operand (Plain (APath (ThisPath p d n))) k h = same-mixes (syms.ThisAtom ∷ k) k (pass-this k) h
pass-operand (Plain (APath (ArgsPath p d n))) k h = same-mixes (syms.PathAtom ∷ k) k (pass-path k) h
pass-operand (Plain _) k h = h
pass-operand (Negated q (APath (BarePath n))) k h = same-mixes (syms.PathAtom ∷ k) k (pass-path k) h
pass-operand (Negated q (APath (ThisPath p d n))) k h = same-mixes (syms.ThisAtom ∷ k) k (pass-this k) h
pass-operand (Negated q (APath (ArgsPath p d n))) k h = same-mixes (syms.PathAtom ∷ k) k (pass-path k) h
pass-operand (Negated q _) k h = h

pass-links : (a : OperandForm) (ls : LinksForm) (k : List Sym) → Mixes k → Mixes (links_tail a ls k)
pass-links a NoLink k h = pass-operand a k h
pass-links a (Link p b ls) k h = pass-links b ls k h

pass-bounds_tail : (b : BoundsForm) (k : List Sym) → Mixes k → Mixes (bounds_tail b k)
pass-bounds_tail NoBounds k h = same-mixes (syms.BoundsPart ∷ k) k (pass-bounds k) h
pass-bounds_tail (Bounds l low d high r) k h = h

pass-type : (t : TypeForm) (k : List Sym) → Mixes k → Mixes (type_tail t k)
pass-type (BaseType p d n b) k h = pass-bounds_tail b k h
pass-type (StatusType p d x b) k h = pass-bounds_tail b k h
pass-type (SliceType p t) k h = pass-type t k h
pass-type (ArrayType p l e r t) k h = pass-type t k h
pass-type (StructType n) k h = h

-- What an operator leaves where it is read.
abbrev Leaves : Move → (List Sym → Type 0) → Type 0
Leaves (Take xs) P = P xs
Leaves (Begin xs) P = ⊥
Leaves (Enter xs) P = ⊥
Leaves Pass P = ⊤
Leaves (Stop r) P = ⊤

binary-move : (s : Sym) (op : Op) → Leaves (move s (kinds.Binary op)) (λ xs. xs ≡ syms.Operand ∷ syms.End ∷ [])
binary-move syms.Rest op = refl
binary-move _ op = tt

as-move : (s : Sym) → Leaves (move s kinds.As) (λ xs. xs ≡ syms.WholeType ∷ syms.End ∷ [])
as-move syms.Rest = refl
as-move _ = tt

abbrev ChainLeaves : Op → List Sym → Type 0
ChainLeaves op xs = (xs ≡ syms.Operand ∷ syms.Links op ∷ []) ⊎ (xs ≡ syms.FieldsOpen ∷ [])

chain-same : (c : Bool) (o op : Op) → same_op o op ≡ c → Leaves (if c then Take (syms.Operand ∷ syms.Links o ∷ []) else m.wrong_mix) (ChainLeaves op)
chain-same true o op e = inl (ap (λ p. syms.Operand ∷ syms.Links p ∷ []) (same_op-true o op e))
chain-same false o op e = tt

chain-plus : (op : Op) → Leaves (m.plus_move op) (ChainLeaves op)
chain-plus ops.Add = inr refl
chain-plus _ = tt

chain-move : (s : Sym) (op : Op) → Leaves (move s (kinds.Chain op)) (ChainLeaves op)
chain-move syms.Rest op = inl refl
chain-move (syms.Links o) op = chain-same (same_op o op) o op refl
chain-move syms.OtherFields op = chain-plus op
chain-move _ op = tt

abbrev After : (List Sym → Type 0) → List Sym → Type 0
After P next = (xs : List Sym) × (k : List Sym) × P xs × (next ≡ xs ++ k)

fed-leaves : (w : Move) (P : List Sym → Type 0) (k : List Sym) (passed : Option (List Sym)) (next : List Sym) → Leaves w P → (passed ≡ Some next → After P next) → fed w k passed ≡ Some next → After P next
fed-leaves (Take xs) P k passed next h g e = (xs, k, h, cc e)
fed-leaves (Begin xs) P k passed next h g e = absurd h
fed-leaves (Enter xs) P k passed next h g e = absurd h
fed-leaves Pass P k passed next h g e = g e
fed-leaves (Stop r) P k passed next h g e = absurd (cc e)

feed-leaves : (P : List Sym → Type 0) (t : Kind) → ((s : Sym) → Leaves (move s t) P) → (k next : List Sym) → feed k t ≡ Some next → After P next
feed-leaves P t f [] next e = absurd (cc e)
feed-leaves P t f (s ∷ k) next e = fed-leaves (move s t) P k (feed k t) next (f s) (λ g. feed-leaves P t f k next g) e

-- Reading in two parts.
cut-go : (o : Option (List Sym)) (front back : List Token) (next : List Sym) → ((j : List Sym) → feeds (front ++ back) j ≡ Some next → (i : List Sym) × (feeds front j ≡ Some i) × (feeds back i ≡ Some next))
    → go_on o (λ j. feeds (front ++ back) j) ≡ Some next → (i : List Sym) × (go_on o (λ j. feeds front j) ≡ Some i) × (feeds back i ≡ Some next)
cut-go None front back next f e = absurd (cc e)
cut-go (Some j) front back next f e = f j e

feeds-cut : (front back : List Token) (k next : List Sym) → feeds (front ++ back) k ≡ Some next → (i : List Sym) × (feeds front k ≡ Some i) × (feeds back i ≡ Some next)
feeds-cut [] back k next e = (k, refl, e)
feeds-cut (t ∷ front) back k next e = cut-go (feed k t.kind) front back next (λ j h. feeds-cut front back j next h) e

first-go : (o : Option (List Sym)) (ts : List Token) (next : List Sym) → go_on o (λ j. feeds ts j) ≡ Some next → (i : List Sym) × (o ≡ Some i) × (feeds ts i ≡ Some next)
first-go None ts next e = absurd (cc e)
first-go (Some j) ts next e = (j, refl, e)

-- after an operand, the next token is read and then the rest
behind-operand : (a : OperandForm) (t : Token) (ts : List Token) (k next : List Sym) → feeds (operand_before a (t ∷ ts)) k ≡ Some next
    → (j : List Sym) × (i : List Sym) × (feed j t.kind ≡ Some i) × (feeds ts i ≡ Some next)
behind-operand a t ts k next e =
    let c = feeds-cut (operand_before a []) (t ∷ ts) k next (ap (λ us. feeds us k) (sym (more-operand a [] (t ∷ ts))) ∙ e) in
    let d = first-go (feed c.0 t.kind) ts next c.2 in
    (c.0, d.0, d.1, d.2)

-- The fields after `+ (` are no operand.
abbrev Unread : List Token → Type 0
Unread ts = (k : List Sym) → feeds ts (syms.Fields ∷ k) ≡ None

unread-name : (n : _) (t : Token) (ts : List Token) (k : List Sym) → m.colon_move t.kind ≡ m.wrong → feeds (name_token n ∷ t ∷ ts) (syms.Fields ∷ k) ≡ None
unread-name n t ts k e = ap (λ w. go_on (fed w (syms.WholeType ∷ syms.MoreFields ∷ k) (feed (syms.WholeType ∷ syms.MoreFields ∷ k) t.kind)) (λ j. feeds ts j)) e

unread-atom : (a : AtomForm) (t : Token) (ts : List Token) → m.colon_move t.kind ≡ m.wrong → Unread (atom_before a (t ∷ ts))
unread-atom (ANumber n p) t ts h k = refl
unread-atom (AText n) t ts h k = refl
unread-atom (ABaseText p d n) t ts h k = refl
unread-atom (AnOk p) t ts h k = refl
unread-atom (ATrue p) t ts h k = refl
unread-atom (AFalse p) t ts h k = refl
unread-atom (APath (BarePath n)) t ts h k = unread-name n t ts k h
unread-atom (APath (ThisPath p d n)) t ts h k = refl
unread-atom (APath (ArgsPath p d n)) t ts h k = refl
unread-atom (Grouped l e r) t ts h k = refl
unread-atom (Indexed (BarePath n) l e r) t ts h k = refl
unread-atom (Indexed (ThisPath p d n) l e r) t ts h k = refl
unread-atom (Indexed (ArgsPath p d n) l e r) t ts h k = refl
unread-atom (Sliced (BarePath n) l i d j r) t ts h k = refl
unread-atom (Sliced (ThisPath p y n) l i d j r) t ts h k = refl
unread-atom (Sliced (ArgsPath p y n) l i d j r) t ts h k = refl
unread-atom (Called (OnThis p) d n mark l gs r) t ts h k = refl
unread-atom (Called (OnPath (BarePath x)) d n mark l gs r) t ts h k = refl
unread-atom (Called (OnPath (ThisPath p y x)) d n mark l gs r) t ts h k = refl
unread-atom (Called (OnPath (ArgsPath p y x)) d n mark l gs r) t ts h k = refl

unread-operand : (a : OperandForm) (t : Token) (ts : List Token) → m.colon_move t.kind ≡ m.wrong → Unread (operand_before a (t ∷ ts))
unread-operand (Plain a) t ts h k = unread-atom a t ts h k
unread-operand (Negated p a) t ts h k = refl

unread-expr : (e : ExprForm) (t : Token) (ts : List Token) → m.colon_move t.kind ≡ m.wrong → Unread (expr_before e (t ∷ ts))
unread-expr (Alone a) t ts h k = unread-operand a t ts h k
unread-expr (Pair a op p b) t ts h k = unread-operand a (token (kinds.Binary op) p) (operand_before b (t ∷ ts)) refl k
unread-expr (Chained a op p b ls) t ts h k = unread-operand a (token (kinds.Chain op) p) (operand_before b (links_before ls op (t ∷ ts))) refl k
unread-expr (Converted a p u) t ts h k = unread-operand a (token kinds.As p) (type_before u (t ∷ ts)) refl k

no-fields : (b : OperandForm) (ts : List Token) (k next : List Sym) → feeds (operand_before b ts) (syms.FieldsOpen ∷ k) ≡ Some next → ⊥
no-fields (Plain (ANumber n p)) ts k next e = cc e
no-fields (Plain (AText n)) ts k next e = cc e
no-fields (Plain (ABaseText p d n)) ts k next e = cc e
no-fields (Plain (AnOk p)) ts k next e = cc e
no-fields (Plain (ATrue p)) ts k next e = cc e
no-fields (Plain (AFalse p)) ts k next e = cc e
no-fields (Plain (APath (BarePath n))) ts k next e = cc e
no-fields (Plain (APath (ThisPath p d n))) ts k next e = cc e
no-fields (Plain (APath (ArgsPath p d n))) ts k next e = cc e
no-fields (Plain (Grouped l g r)) ts k next e = let f : None ≡ Some next = sym (unread-expr g (token kinds.CloseRound r) ts refl k) ∙ e in cc f
no-fields (Plain (Indexed (BarePath n) l g r)) ts k next e = cc e
no-fields (Plain (Indexed (ThisPath p d n) l g r)) ts k next e = cc e
no-fields (Plain (Indexed (ArgsPath p d n) l g r)) ts k next e = cc e
no-fields (Plain (Sliced (BarePath n) l i d j r)) ts k next e = cc e
no-fields (Plain (Sliced (ThisPath p y n) l i d j r)) ts k next e = cc e
no-fields (Plain (Sliced (ArgsPath p y n) l i d j r)) ts k next e = cc e
no-fields (Plain (Called (OnThis p) d n mark l gs r)) ts k next e = cc e
no-fields (Plain (Called (OnPath (BarePath x)) d n mark l gs r)) ts k next e = cc e
no-fields (Plain (Called (OnPath (ThisPath p y x)) d n mark l gs r)) ts k next e = cc e
no-fields (Plain (Called (OnPath (ArgsPath p y x)) d n mark l gs r)) ts k next e = cc e
no-fields (Negated p a) ts k next e = cc e

-- After an operation, an operator is mixed.
same-next : (j next : List Sym) → Some j ≡ Some next → j ≡ next
same-next j next e = cc e

operation-mixes : (e : ExprForm) (k next : List Sym) → IsOperation e → feeds (expr_before e []) k ≡ Some next → Mixes next
operation-mixes (Alone a) k next o e = absurd o
operation-mixes (Pair a op p b) k next o e =
    let c = behind-operand a (token (kinds.Binary op) p) (operand_before b []) k next e in
    let l = feed-leaves (λ xs. xs ≡ syms.Operand ∷ syms.End ∷ []) (kinds.Binary op) (λ s. binary-move s op) c.0 c.1 c.2 in
    let i : c.1 ≡ syms.Operand ∷ syms.End ∷ l.1 = l.3 ∙ ap (λ xs. xs ++ l.1) l.2 in
    let q : operand_tail b (syms.End ∷ l.1) ≡ next = same-next _ _ (sym (fw-operand b [] (syms.End ∷ l.1)) ∙ ap (λ j. feeds (operand_before b []) j) (sym i) ∙ c.3) in
    subst Mixes q (pass-operand b (syms.End ∷ l.1) (mixes-end l.1))
operation-mixes (Converted a p t) k next o e =
    let c = behind-operand a (token kinds.As p) (type_before t []) k next e in
    let l = feed-leaves (λ xs. xs ≡ syms.WholeType ∷ syms.End ∷ []) kinds.As as-move c.0 c.1 c.2 in
    let i : c.1 ≡ syms.WholeType ∷ syms.End ∷ l.1 = l.3 ∙ ap (λ xs. xs ++ l.1) l.2 in
    let q : type_tail t (syms.End ∷ l.1) ≡ next = same-next _ _ (sym (fw-type t [] (syms.End ∷ l.1)) ∙ ap (λ j. feeds (type_before t []) j) (sym i) ∙ c.3) in
    subst Mixes q (pass-type t (syms.End ∷ l.1) (mixes-end l.1))
operation-mixes (Chained a op p b ls) k next o e =
    let behind = operand_before b (links_before ls op []) in
    let c = behind-operand a (token (kinds.Chain op) p) behind k next e in
    let l = feed-leaves (ChainLeaves op) (kinds.Chain op) (λ s. chain-move s op) c.0 c.1 c.2 in
    on-either l.0 l.1 c.1 l.3 c.3 l.2
  where
    on-either : (xs j i : List Sym) → i ≡ xs ++ j → feeds (operand_before b (links_before ls op [])) i ≡ Some next → ChainLeaves op xs → Mixes next
    on-either xs j i f g (inl h) =
        let at : i ≡ syms.Operand ∷ syms.Links op ∷ j = f ∙ ap (λ ys. ys ++ j) h in
        let q : links_tail b ls (syms.Links op ∷ j) ≡ next =
        same-next _ _ (sym (fw-operand b (links_before ls op []) (syms.Links op ∷ j) ∙ fw-links ls b op [] j) ∙ ap (λ ks. feeds (operand_before b (links_before ls op [])) ks) (sym at) ∙ g) in
        subst Mixes q (pass-links b ls (syms.Links op ∷ j) (mixes-links op j))
    on-either xs j i f g (inr h) =
        let at : i ≡ syms.FieldsOpen ∷ j = f ∙ ap (λ ys. ys ++ j) h in
        absurd (no-fields b (links_before ls op []) j next (ap (λ ks. feeds (operand_before b (links_before ls op [])) ks) (sym at) ∙ g))

pub front-mixes : (front : List Token) (wanted : List Sym) → feeds front (syms.File ∷ []) ≡ Some wanted → EndsInOperation front → Mixes wanted
front-mixes front wanted e h =
    let c = feeds-cut h.before (expr_before h.expr []) (syms.File ∷ []) wanted (ap (λ ts. feeds ts (syms.File ∷ [])) (sym h.parts) ∙ e) in
    operation-mixes h.expr c.0 wanted h.operation c.2
