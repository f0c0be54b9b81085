-- The tree of a package stays where texts and nodes are added.
use Rattle.std.proofs.Common.{◌≡◌, ◌<◌, inl, inr, ℕ, Option, None, Some, List, [], ◌∷◌, ◌++◌, length, map, refl, sym, ◌∙◌, ap}
use Rattle.std.specs.List.{AllByRecursion, slice_get}
use Rattle.std.specs.Option.{option_map}
use Rattle.wf_ast.specs.declared.numbers.ExprId.{ExprId}
use Rattle.wf_ast.specs.declared.numbers.StmtId.{StmtId}
use Rattle.wf_ast.specs.declared.parsed.Name.{Name}
use Rattle.wf_ast.specs.ParsedParts.{JoinsText}
use Rattle.wf_ast.proofs.TreeLemmas.{Agree, slice_get-seam}
use Rattle.wf_named.specs.declared.nodes.NamedExprNode.{NamedExprNode}
use Rattle.wf_named.specs.declared.nodes.NamedStmtNode.{NamedStmtNode}
use Rattle.wf_named.specs.declared.nodes.NamedType.{NamedType}
use Rattle.wf_named.specs.declared.declarations.NamedConst.{NamedConst}
use Rattle.wf_named.specs.declared.declarations.NamedMethod.{NamedMethod}
use Rattle.wf_named.specs.declared.declarations.NamedStruct.{NamedStruct}
use Rattle.wf_named.specs.declared.declarations.NamedVar.{NamedVar}
use Rattle.wf_named.specs.NamedTree.{NamedExprTree, NamedStmtTree}
use Rattle.wf_named.specs.NamedTrees.{expr_or, expr_at, stmt_or, stmt_at, type_at, word_at, expr_trees, expr_made, stmt_trees, stmt_made, var_made, const_made, struct_made, method_made}
use Rattle.wf_named.specs.NamedParts.{NamedParts, IsShaped, exprs_of, stmts_of, named_package, NamedResultBelow, NamedVarBelow, NamedConstBelow, NamedStructBelow, NamedMethodBelow}
use Rattle.wf_named.proofs.ExprLemmas.{agree_front, expr_at-same, type_at-same, expr_trees-agree, expr_trees-length, expr_trees-push}
use Rattle.wf_named.proofs.StmtLemmas.{agree_self, word_at-same, block_at-same, stmt_trees-agree, stmt_trees-expr, stmt_trees-length, stmt_trees-push, stmt_trees-text}

map_same : {X Y : Type 0} (P : X → Type 0) (f g : X → Y) → ((x : X) → P x → f x ≡ g x) → (xs : List X) → AllByRecursion P xs → map f xs ≡ map g xs
map_same P f g same [] h = refl
map_same P f g same (x ∷ xs) h = let p = same x h.0 in let q = map_same P f g same xs h.1 in cc

-- Texts, expressions and statements that agree make the same declarations.
module _ (t e : ℕ) (texts other : List (List ℕ)) (es fs : List NamedExprTree) (a : Agree t texts other) (b : Agree e es fs) where
  pub var_made-same : (x : NamedVar) → NamedVarBelow t e x → var_made texts es x ≡ var_made other fs x
  var_made-same x h = let w = word_at-same t texts other a x.name h.0 in let p = type_at-same e es fs b x.of h.1 in cc

  pub vars_made-same : (xs : List NamedVar) → AllByRecursion (NamedVarBelow t e) xs → map (var_made texts es) xs ≡ map (var_made other fs) xs
  vars_made-same xs h = map_same (NamedVarBelow t e) (var_made texts es) (var_made other fs) var_made-same xs h

  pub const_made-same : (c : NamedConst) → NamedConstBelow t e c → const_made texts es c ≡ const_made other fs c
  const_made-same c h =
      let w = word_at-same t texts other a c.name h.0 in
      let p = type_at-same e es fs b c.of h.1 in
      let q = expr_at-same e es fs b c.value h.2 in cc

  pub struct_made-same : (s : NamedStruct) → NamedStructBelow t e s → struct_made texts es s ≡ struct_made other fs s
  struct_made-same s h = let w = word_at-same t texts other a s.name h.0 in let p = vars_made-same s.fields h.1 in cc

  pub result_made-same : (r : Option NamedType) → NamedResultBelow e r → option_map (type_at es) r ≡ option_map (type_at fs) r
  result_made-same None h = refl
  result_made-same (Some r) h = ap Some (type_at-same e es fs b r h)

  pub method_made-same : (k : ℕ) (ts us : List NamedStmtTree) → Agree k ts us → (m : NamedMethod) → NamedMethodBelow t e k m → method_made texts es ts m ≡ method_made other fs us m
  method_made-same k ts us c m h =
      let w = word_at-same t texts other a m.name h.0 in
      let p = vars_made-same m.args h.1 in
      let q = vars_made-same m.locals h.2 in
      let r = result_made-same m.gives h.3 in
      let s = block_at-same k ts us c m.body h.4 in cc

pub named_package-same : (p : NamedParts) (texts : List (List ℕ)) (exprs : List NamedExprNode) (stmts : List NamedStmtNode) → IsShaped p
    → Agree (length p.texts) p.texts texts
    → Agree (length p.exprs) (expr_trees p.exprs) (expr_trees exprs)
    → Agree (length p.stmts) (stmt_trees p.texts p.exprs p.stmts) (stmt_trees texts exprs stmts)
    → named_package p ≡ named_package (record p { texts = texts; exprs = exprs; stmts = stmts })
unfolding named_package
named_package-same p texts exprs stmts s a b c =
    let t = length p.texts in
    let e = length p.exprs in
    let k = length p.stmts in
    let es = expr_trees p.exprs in
    let fs = expr_trees exprs in
    let ts = stmt_trees p.texts p.exprs p.stmts in
    let us = stmt_trees texts exprs stmts in
    let m = map_same (NamedConstBelow t e) (const_made p.texts es) (const_made texts fs) (const_made-same t e p.texts texts es fs a b) p.consts s.consts in
    let n = map_same (λ (x : Name). x.text.0 < t) (word_at p.texts) (word_at texts) (word_at-same t p.texts texts a) p.statuses s.statuses in
    let o = map_same (NamedStructBelow t e) (struct_made p.texts es) (struct_made texts fs) (struct_made-same t e p.texts texts es fs a b) p.structs s.structs in
    let q = map_same (NamedMethodBelow t e k) (method_made p.texts es ts) (method_made texts fs us) (method_made-same t e p.texts texts es fs a b k ts us c) p.methods s.methods in cc

-- One more text: the trees stay.
pub stmts_interned : (p : NamedParts) (text : List ℕ) (new : List (List ℕ)) → IsShaped p → JoinsText p.texts new text → stmt_trees new p.exprs p.stmts ≡ stmts_of p
stmts_interned p text new s (inl e) = ap (λ ts. stmt_trees ts p.exprs p.stmts) e
stmts_interned p text new s (inr e) = ap (λ ts. stmt_trees ts p.exprs p.stmts) e ∙ sym (stmt_trees-text p.texts text p.exprs p.stmts s.stmts)

pub package_interned : (p : NamedParts) (text : List ℕ) (new : List (List ℕ)) → IsShaped p → JoinsText p.texts new text → named_package (record p { texts = new }) ≡ named_package p
package_interned p text new s (inl e) = ap (λ ts. named_package (record p { texts = ts })) e
package_interned p text new s (inr e) =
    let same = named_package-same p (p.texts ++ text ∷ []) p.exprs p.stmts s (agree_front p.texts (text ∷ [])) (agree_self (length p.exprs) (expr_trees p.exprs))
    (λ i h. ap (λ ts. slice_get ts i) (stmt_trees-text p.texts text p.exprs p.stmts s.stmts)) in
    ap (λ ts. named_package (record p { texts = ts })) e ∙ sym same

-- One more expression: its tree is added, and the others stay.
pub exprs_pushed : (p : NamedParts) (n : NamedExprNode) (new : List NamedExprNode) → new ≡ p.exprs ++ n ∷ [] → expr_trees new ≡ exprs_of p ++ expr_made (exprs_of p) n.expr n.at ∷ []
exprs_pushed p n new e = ap expr_trees e ∙ expr_trees-push p.exprs n

pub expr_added : (p : NamedParts) (n : NamedExprNode) (new : List NamedExprNode) (e : ExprId) → new ≡ p.exprs ++ n ∷ [] → e.0 ≡ length p.exprs
    → expr_at (expr_trees new) e ≡ expr_made (exprs_of p) n.expr n.at
expr_added p n new e is at =
    let made = expr_made (exprs_of p) n.expr n.at in
    let spot : e.0 ≡ length (exprs_of p) = at ∙ sym (expr_trees-length p.exprs) in
    ap (λ ts. expr_or (slice_get ts e.0)) (exprs_pushed p n new is)
    ∙ ap (λ i. expr_or (slice_get (exprs_of p ++ made ∷ []) i)) spot
    ∙ ap expr_or (slice_get-seam (exprs_of p) made [])

pub stmts_kept : (p : NamedParts) (n : NamedExprNode) (new : List NamedExprNode) → IsShaped p → new ≡ p.exprs ++ n ∷ [] → stmt_trees p.texts new p.stmts ≡ stmts_of p
stmts_kept p n new s e = ap (λ es. stmt_trees p.texts es p.stmts) e ∙ sym (stmt_trees-expr p.texts p.exprs n p.stmts s.stmts)

pub package_kept : (p : NamedParts) (n : NamedExprNode) (new : List NamedExprNode) → IsShaped p → new ≡ p.exprs ++ n ∷ [] → named_package (record p { exprs = new }) ≡ named_package p
package_kept p n new s e =
    let same = named_package-same p p.texts (p.exprs ++ n ∷ []) p.stmts s (agree_self (length p.texts) p.texts) (expr_trees-agree p.exprs n)
    (λ i h. ap (λ ts. slice_get ts i) (stmt_trees-expr p.texts p.exprs n p.stmts s.stmts)) in
    ap (λ es. named_package (record p { exprs = es })) e ∙ sym same

-- One more statement likewise.
pub stmts_pushed : (p : NamedParts) (n : NamedStmtNode) (new : List NamedStmtNode) → new ≡ p.stmts ++ n ∷ []
    → stmt_trees p.texts p.exprs new ≡ stmts_of p ++ stmt_made p.texts (exprs_of p) (stmts_of p) n.stmt n.at ∷ []
stmts_pushed p n new e = ap (stmt_trees p.texts p.exprs) e ∙ stmt_trees-push p.texts p.exprs p.stmts n

pub stmt_added : (p : NamedParts) (n : NamedStmtNode) (new : List NamedStmtNode) (s : StmtId) → new ≡ p.stmts ++ n ∷ [] → s.0 ≡ length p.stmts
    → stmt_at (stmt_trees p.texts p.exprs new) s ≡ stmt_made p.texts (exprs_of p) (stmts_of p) n.stmt n.at
stmt_added p n new s is at =
    let made = stmt_made p.texts (exprs_of p) (stmts_of p) n.stmt n.at in
    let spot : s.0 ≡ length (stmts_of p) = at ∙ sym (stmt_trees-length p.texts p.exprs p.stmts) in
    ap (λ ts. stmt_or (slice_get ts s.0)) (stmts_pushed p n new is)
    ∙ ap (λ i. stmt_or (slice_get (stmts_of p ++ made ∷ []) i)) spot
    ∙ ap stmt_or (slice_get-seam (stmts_of p) made [])

pub package_stays : (p : NamedParts) (n : NamedStmtNode) (new : List NamedStmtNode) → IsShaped p → new ≡ p.stmts ++ n ∷ [] → named_package (record p { stmts = new }) ≡ named_package p
package_stays p n new s e =
    let same = named_package-same p p.texts p.exprs (p.stmts ++ n ∷ []) s (agree_self (length p.texts) p.texts) (agree_self (length p.exprs) (expr_trees p.exprs))
    (stmt_trees-agree p.texts p.exprs p.stmts n) in
    ap (λ ss. named_package (record p { stmts = ss })) e ∙ sym same
