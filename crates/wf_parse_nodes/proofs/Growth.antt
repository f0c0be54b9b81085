-- What is seen of values and declarations stays while the package grows.
use Rattle.std.proofs.Common.{◌≡◌, ◌<◌, ◌≤◌, ◌+◌, ℕ, Option, None, Some, List, [], ◌∷◌, ◌++◌, length, map, refl, ap, arith}
use Rattle.std.specs.List.{AllByRecursion}
use Rattle.wf_text.specs.declared.place.Place.{Place}
use Rattle.wf_ast.specs.declared.parsed.Arm.{Arm}
use Rattle.wf_ast.specs.declared.parsed.Block.{Block}
use Rattle.wf_ast.specs.declared.parsed.DeclNode.{DeclNode}
use Rattle.wf_ast.specs.declared.parsed.Decl.{Decl}
use Rattle.wf_ast.specs.declared.parsed.Decl.TheVariants as decls
use Rattle.wf_ast.specs.declared.parsed.Field.{Field}
use Rattle.wf_ast.specs.declared.parsed.LoopClause.{LoopClause}
use Rattle.wf_ast.specs.declared.parsed.Prefix.{Prefix}
use Rattle.wf_ast.specs.declared.parsed.Prefix.TheVariants as fronts
use Rattle.wf_ast.specs.declared.parsed.Stmt.{Stmt}
use Rattle.wf_ast.specs.declared.parsed.Stmt.TheVariants as stmts
use Rattle.wf_ast.specs.declared.parsed.StmtNode.{StmtNode}
use Rattle.wf_ast.specs.declared.parsed.Target.{Target}
use Rattle.wf_ast.specs.declared.parsed.Target.TheVariants as targets
use Rattle.wf_ast.specs.declared.parsed.TypeExpr.{TypeExpr}
use Rattle.wf_ast.specs.declared.parsed.Via.{Via}
use Rattle.wf_ast.specs.ParsedTree as tree
use Rattle.wf_ast.specs.ParsedTree.{ExprTree, StmtTree, ArmTrees}
use Rattle.wf_ast.specs.ParsedTrees.{target_at, clauses_at, via_at, stmt_at, block_at, arms_at, stmt_made, stmts_after, fields_at, result_at, decl_made, decls_made}
use Rattle.wf_ast.specs.ParsedParts.{TargetBelow, ViaBelow, BlockBelow, ElseBelow, StmtParts, StmtsOrdered, FieldsBelow, ResultBelow, DeclParts, PrefixBelow}
use Rattle.wf_ast.proofs.TreeLemmas.{Agree, expr_at-same, part_at-same, given_at-same, bounds_at-same, type_at-same, items_at-same, IsBelow-more, GivenBelow-more, PrefixBelow-more, BoundsBelow-more, TypeBelow-more, TargetBelow-more, ViaBelow-more, FieldsBelow-more, ResultBelow-more, BlockBelow-more, all_map}
use Rattle.wf_parse_nodes.specs.declared.values.SemanticValue.{SemanticValue}
use Rattle.wf_parse_nodes.specs.declared.values.SemanticValue.TheVariants as vals
use Rattle.wf_parse_grammar.specs.Values as val
use Rattle.wf_parse_nodes.specs.Seen.{seen_link, seen_given, seen_prefix, seen_arm, seen_clause, seen_field, seen_otherwise, seen_value, seen_values, ValueBelow, ValuesBelow}

-- Lists of which each item is seen alike.
pub map_same : {X Y : Type 0} (P : X → Type 0) (f g : X → Y) → ((x : X) → P x → f x ≡ g x) → (xs : List X) → AllByRecursion P xs → map f xs ≡ map g xs
map_same P f g s [] a = refl
map_same P f g s (x ∷ xs) a = let p = s x a.0 in let q = map_same P f g s xs a.1 in cc

-- `e` expressions and `k` statements keep their trees.
module _ (e k : ℕ) (es fs : List ExprTree) (ts us : List StmtTree) (a : Agree e es fs) (b : Agree k ts us) where
  block_same : (x : Block) → BlockBelow k x → block_at ts x ≡ block_at us x
  block_same x h = items_at-same k ts us b x.items x.close h

  prefix_same : (p : Prefix) → PrefixBelow e p → seen_prefix es p ≡ seen_prefix fs p
  prefix_same (fronts.Slice at) h = refl
  prefix_same (fronts.Array length at) h = ap (λ x. val.array_prefix x at) (expr_at-same e es fs a length h)

  target_same : (t : Target) → TargetBelow e t → target_at es t ≡ target_at fs t
  target_same (targets.Path path) h = refl
  target_same (targets.Element base place at) h = ap (λ x. tree.to_element base x at) (expr_at-same e es fs a place h)

  via_same : (v : Option Via) → ViaBelow e v → via_at es v ≡ via_at fs v
  via_same None h = refl
  via_same (Some v) h = ap (tree.via v.axiom) (given_at-same e es fs a v.given h)

  otherwise_same : (x : Option Block) → ElseBelow k x → seen_otherwise ts x ≡ seen_otherwise us x
  otherwise_same None h = refl
  otherwise_same (Some x) h = ap Some (block_same x h)

  result_same : (t : Option TypeExpr) → ResultBelow e t → result_at es t ≡ result_at fs t
  result_same None h = refl
  result_same (Some t) h = ap tree.gives (type_at-same e es fs a t h)

  clauses_same : (cs : List LoopClause) → AllByRecursion (λ c. c.condition.0 < e) cs → clauses_at es cs ≡ clauses_at fs cs
  clauses_same [] h = refl
  clauses_same (c ∷ cs) h = let p = expr_at-same e es fs a c.condition h.0 in let q = clauses_same cs h.1 in cc

  fields_same : (xs : List Field) → FieldsBelow e xs → fields_at es xs ≡ fields_at fs xs
  fields_same [] h = refl
  fields_same (x ∷ xs) h = let p = type_at-same e es fs a x.of h.0 in let q = fields_same xs h.1 in cc

  pub value_same : (v : SemanticValue) → ValueBelow e k v → seen_value es ts v ≡ seen_value fs us v
  value_same (vals.Name n) h = refl
  value_same (vals.Place p) h = refl
  value_same (vals.Mark m) h = refl
  value_same (vals.Public x) h = refl
  value_same (vals.Sign s) h = refl
  value_same (vals.Path x) h = refl
  value_same (vals.Receiver r) h = refl
  value_same (vals.Expr x) h = ap val.expr (expr_at-same e es fs a x h)
  value_same (vals.Part x) h = ap val.part (part_at-same e es fs a x h)
  value_same (vals.Chain c) h =
      let p = expr_at-same e es fs a c.first h.0 in
      let q = map_same _ (seen_link es) (seen_link fs) (λ l m. ap (λ x. let link : val.LinkVal = record { sign = l.sign; operand = x } in link) (expr_at-same e es fs a l.operand m)) c.links h.1 in cc
  value_same (vals.Givens gs) h =
      ap val.givens (map_same _ (seen_given es) (seen_given fs) (λ g m. ap (λ x. let given : val.GivenVal = record { name = g.name; value = x } in given) (expr_at-same e es fs a g.value m)) gs h)
  value_same (vals.Call c) h = ap (λ gs. val.call (tree.call c.on c.method c.mark gs)) (given_at-same e es fs a c.args h)
  value_same (vals.Prefixes ps) h = ap val.prefixes (map_same (PrefixBelow e) (seen_prefix es) (seen_prefix fs) prefix_same ps h)
  value_same (vals.Core c) h = refl
  value_same (vals.Bounds x) h = ap val.bounds (bounds_at-same e es fs a x h)
  value_same (vals.Type t) h = ap val.type (type_at-same e es fs a t h)
  value_same (vals.Items items) h = ap val.items (map_same _ (stmt_at ts) (stmt_at us) (λ s m. ap Rattle.wf_ast.specs.ParsedTrees.stmt_or (b s.0 m)) items h)
  value_same (vals.Block x) h = ap val.block (block_same x h)
  value_same (vals.Stmt s) h = ap (λ x. val.stmt (Rattle.wf_ast.specs.ParsedTrees.stmt_or x)) (b s.0 h)
  value_same (vals.Target t) h = ap val.target (target_same t h)
  value_same (vals.Arms arms) h =
      ap val.arms (map_same _ (seen_arm es ts) (seen_arm fs us) (λ x m. let p = expr_at-same e es fs a x.condition m.0 in let q = block_same x.body m.1 in cc) arms h)
  value_same (vals.Otherwise x) h = ap val.otherwise (otherwise_same x h)
  value_same (vals.Clauses cs) h =
      ap val.clauses (map_same _ (seen_clause es) (seen_clause fs) (λ c m. ap (λ x. let clause : val.ClauseVal = record { kind = c.kind; condition = x; at = c.at } in clause) (expr_at-same e es fs a c.condition m)) cs h)
  value_same (vals.Label l) h = refl
  value_same (vals.Via v) h = ap val.via (via_same v h)
  value_same (vals.Fields xs) h =
      ap val.fields (map_same _ (seen_field es) (seen_field fs) (λ x m. ap (λ t. let field : val.FieldVal = record { name = x.name; of = t } in field) (type_at-same e es fs a x.of m)) xs h)
  value_same (vals.Result t) h = ap val.result (result_same t h)

  pub values_same : (vs : List SemanticValue) → ValuesBelow e k vs → seen_values es ts vs ≡ seen_values fs us vs
  values_same [] h = refl
  values_same (v ∷ vs) h = let p = value_same v h.0 in let q = values_same vs h.1 in cc

  decl_same : (public : _) (d : Decl) (at : Place) → DeclParts e k d → decl_made es ts public d at ≡ decl_made fs us public d at
  decl_same public (decls.Status text) at h = refl
  decl_same public (decls.Const name of value) at h = let p = type_at-same e es fs a of h.0 in let q = expr_at-same e es fs a value h.1 in cc
  decl_same public (decls.Struct name mark fields) at h = ap (λ x. tree.structure public name mark x at) (fields_same fields h)
  decl_same public (decls.Method owner name mark args result body) at h =
      let p = fields_same args h.0 in
      let q = result_same result h.1 in
      let r = block_same body h.2 in cc

  pub decls_same : (ds : List DeclNode) → AllByRecursion (λ d. DeclParts e k d.decl) ds → decls_made es ts ds ≡ decls_made fs us ds
  decls_same [] h = refl
  decls_same (d ∷ ds) h = let p = decl_same d.public d.decl d.at h.0 in let q = decls_same ds h.1 in cc

-- A statement keeps its tree while expressions are added.
module _ (e : ℕ) (es fs : List ExprTree) (a : Agree e es fs) where
  arms_exprs : (k : ℕ) (ts : List StmtTree) (arms : List Arm) (last : ArmTrees) → AllByRecursion (λ x. (x.condition.0 < e) × BlockBelow k x.body) arms → arms_at es ts arms last ≡ arms_at fs ts arms last
  arms_exprs k ts [] last h = refl
  arms_exprs k ts (x ∷ arms) last h = let p = expr_at-same e es fs a x.condition h.0.0 in let q = arms_exprs k ts arms last h.1 in cc

  stmt_exprs : (k : ℕ) (ts : List StmtTree) (s : Stmt) (at : Place) → StmtParts e k s → stmt_made es ts s at ≡ stmt_made fs ts s at
  stmt_exprs k ts (stmts.Var name of) at h = ap (λ t. tree.var name t at) (type_at-same e es fs a of h)
  stmt_exprs k ts (stmts.Assign target op sign value) at h = let p = target_same e k es fs ts ts a (λ i m. refl) target h.0 in let q = expr_at-same e es fs a value h.1 in cc
  stmt_exprs k ts (stmts.Keep target c) at h = let p = target_same e k es fs ts ts a (λ i m. refl) target h.0 in let q = given_at-same e es fs a c.args h.1 in cc
  stmt_exprs k ts (stmts.Call c) at h = ap (λ gs. tree.do_call (tree.call c.on c.method c.mark gs) at) (given_at-same e es fs a c.args h)
  stmt_exprs k ts (stmts.If arms otherwise) at h = ap (λ x. tree.branch x at) (arms_exprs k ts arms _ h.0)
  stmt_exprs k ts (stmts.While label condition clauses body) at h =
      let p = expr_at-same e es fs a condition h.0 in
      let q = clauses_same e k es fs ts ts a (λ i m. refl) clauses h.1 in cc
  stmt_exprs k ts (stmts.Break label) at h = refl
  stmt_exprs k ts (stmts.Continue label) at h = refl
  stmt_exprs k ts (stmts.Return value) at h = ap (λ x. tree.back x at) (part_at-same e es fs a value h)
  stmt_exprs k ts (stmts.Yield value) at h = ap (λ x. tree.suspend x at) (expr_at-same e es fs a value h)
  stmt_exprs k ts (stmts.Assert goal v) at h =
      let p = expr_at-same e es fs a goal h.0 in
      let q = via_same e k es fs ts ts a (λ i m. refl) v h.1 in cc

  pub stmts_exprs : (k : ℕ) (ts us : List StmtTree) (ns : List StmtNode) → ts ≡ us → StmtsOrdered e k ns → stmts_after es ts ns ≡ stmts_after fs us ns
  stmts_exprs k ts us [] p h = p
  stmts_exprs k ts us (n ∷ ns) p h =
      let q = stmt_exprs k ts n.stmt n.at h.0 in
      let longer : ts ++ stmt_made es ts n.stmt n.at ∷ [] ≡ us ++ stmt_made fs us n.stmt n.at ∷ [] = cc in
      stmts_exprs (k + 1) _ _ ns longer h.1

-- What is below a number is below a larger one.
module _ (e f k l : ℕ) (m : e ≤ f) (n : k ≤ l) where
  value_more : (v : SemanticValue) → ValueBelow e k v → ValueBelow f l v
  value_more (vals.Name x) h = tt
  value_more (vals.Place p) h = tt
  value_more (vals.Mark x) h = tt
  value_more (vals.Public x) h = tt
  value_more (vals.Sign s) h = tt
  value_more (vals.Path x) h = tt
  value_more (vals.Receiver r) h = tt
  value_more (vals.Expr x) h = omega arith
  value_more (vals.Part x) h = IsBelow-more e f m x h
  value_more (vals.Chain c) h = (omega (arith, h.0), all_map (λ x. x.operand.0 < e) (λ x. x.operand.0 < f) (λ x p. omega arith) c.links h.1)
  value_more (vals.Givens gs) h = GivenBelow-more e f m gs h
  value_more (vals.Call c) h = GivenBelow-more e f m c.args h
  value_more (vals.Prefixes ps) h = all_map (PrefixBelow e) (PrefixBelow f) (PrefixBelow-more e f m) ps h
  value_more (vals.Core c) h = tt
  value_more (vals.Bounds x) h = BoundsBelow-more e f m x h
  value_more (vals.Type t) h = TypeBelow-more e f m t h
  value_more (vals.Items items) h = all_map (λ s. s.0 < k) (λ s. s.0 < l) (λ s p. omega arith) items h
  value_more (vals.Block x) h = BlockBelow-more k l n x h
  value_more (vals.Stmt s) h = omega arith
  value_more (vals.Target t) h = TargetBelow-more e f m t h
  value_more (vals.Arms arms) h = all_map (λ x. (x.condition.0 < e) × BlockBelow k x.body) (λ x. (x.condition.0 < f) × BlockBelow l x.body) (λ x p. (omega (arith, p.0), BlockBelow-more k l n x.body p.1)) arms h
  value_more (vals.Otherwise None) h = tt
  value_more (vals.Otherwise (Some x)) h = BlockBelow-more k l n x h
  value_more (vals.Clauses cs) h = all_map (λ c. c.condition.0 < e) (λ c. c.condition.0 < f) (λ c p. omega arith) cs h
  value_more (vals.Label x) h = tt
  value_more (vals.Via v) h = ViaBelow-more e f m v h
  value_more (vals.Fields xs) h = FieldsBelow-more e f m xs h
  value_more (vals.Result t) h = ResultBelow-more e f m t h

  pub values_more : (vs : List SemanticValue) → ValuesBelow e k vs → ValuesBelow f l vs
  values_more vs h = all_map (ValueBelow e k) (ValueBelow f l) value_more vs h
