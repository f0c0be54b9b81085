-- A package stays in shape where texts, nodes and declarations are added that are of it.
use Rattle.std.proofs.Common.{if◌then◌else◌, true, false, ◌≡◌, ◌+◌, ◌<◌, ◌≤◌, inl, inr, ℕ, Bool, Option, None, Some, List, [], ◌∷◌, ◌++◌, length, sym, ap, subst, arith, length-append}
use Rattle.std.specs.List.{AllByRecursion}
use Rattle.std.specs.Prelude.{Result, Ok, Err}
use Rattle.std.specs.Result.{OnOk, OnErr}
use Rattle.wf_ast.specs.declared.numbers.ExprId.{ExprId}
use Rattle.wf_ast.specs.declared.parsed.Given.{Given}
use Rattle.wf_ast.specs.declared.parsed.Name.{Name}
use Rattle.wf_ast.specs.declared.parsed.Via.{Via}
use Rattle.wf_ast.specs.ParsedParts.{AreDistinct, JoinsText, PrefixBelow, BlockBelow}
use Rattle.wf_ast.proofs.TreeLemmas.{all_map, IsBelow-more, PrefixBelow-more, BoundsBelow-more, BlockBelow-more}
use Rattle.wf_named.specs.declared.nodes.NamedExprNode.{NamedExprNode}
use Rattle.wf_named.specs.declared.nodes.NamedStmt.{NamedStmt}
use Rattle.wf_named.specs.declared.nodes.NamedStmt.TheVariants as stmts
use Rattle.wf_named.specs.declared.nodes.NamedStmtNode.{NamedStmtNode}
use Rattle.wf_named.specs.declared.nodes.NamedTarget.{NamedTarget}
use Rattle.wf_named.specs.declared.nodes.NamedTarget.TheVariants as targets
use Rattle.wf_named.specs.declared.nodes.NamedType.{NamedType}
use Rattle.wf_named.specs.declared.declarations.NamedConst.{NamedConst}
use Rattle.wf_named.specs.declared.declarations.NamedMethod.{NamedMethod}
use Rattle.wf_named.specs.declared.declarations.NamedStruct.{NamedStruct}
use Rattle.wf_named.specs.declared.declarations.NamedVar.{NamedVar}
use Rattle.wf_named.specs.NamedParts.{NamedParts, IsShaped, ArgsBelow, NamedTypeBelow, NamedExprParts, NamedTargetBelow, LettersBelow, AxiomBelow, NamedStmtParts, NamedVarBelow, NamedConstBelow, NamedStructBelow, NamedResultBelow, NamedMethodBelow, NamedStmtsOrdered}
use Rattle.wf_named.proofs.ExprLemmas.{exprs_push}
use Rattle.wf_named.proofs.StmtLemmas.{stmts_push}

-- What is below a number is below a larger one.
pub NamedTypeBelow-more : (k l : ℕ) → k ≤ l → (t : NamedType) → NamedTypeBelow k t → NamedTypeBelow l t
NamedTypeBelow-more k l m t h = (all_map (PrefixBelow k) (PrefixBelow l) (PrefixBelow-more k l m) t.prefixes h.0, BoundsBelow-more k l m t.bounds h.1)

pub ArgsBelow-more : (k l : ℕ) → k ≤ l → (es : List ExprId) → ArgsBelow k es → ArgsBelow l es
ArgsBelow-more k l m es h = all_map (λ e. e.0 < k) (λ e. e.0 < l) (λ e p. omega (arith, p, m)) es h

module _ (t u e f : ℕ) (m : t ≤ u) (n : e ≤ f) where
  pub NamedTargetBelow-more : (x : NamedTarget) → NamedTargetBelow e x → NamedTargetBelow f x
  NamedTargetBelow-more (targets.Path path) h = tt
  NamedTargetBelow-more (targets.Element base place at) h = omega (arith, h, n)

  pub LettersBelow-more : (gs : List Given) → LettersBelow t e gs → LettersBelow u f gs
  LettersBelow-more gs h =
      all_map (λ g. (g.name.text.0 < t) × (g.value.0 < e)) (λ g. (g.name.text.0 < u) × (g.value.0 < f)) (λ g p. (omega (arith, p.0, m), omega (arith, p.1, n))) gs h

  pub AxiomBelow-more : (v : Option Via) → AxiomBelow t e v → AxiomBelow u f v
  AxiomBelow-more None h = tt
  AxiomBelow-more (Some v) h = (omega (arith, h.0, m), LettersBelow-more v.given h.1)

  pub NamedStmtParts-more : (k : ℕ) (s : NamedStmt) → NamedStmtParts t e k s → NamedStmtParts u f k s
  NamedStmtParts-more k (stmts.Assign target op sign value) h = (NamedTargetBelow-more target h.0, omega (arith, h.1, n))
  NamedStmtParts-more k (stmts.Keep target c) h = (NamedTargetBelow-more target h.0, ArgsBelow-more e f n c.args h.1)
  NamedStmtParts-more k (stmts.Call c) h = ArgsBelow-more e f n c.args h
  NamedStmtParts-more k (stmts.If arms otherwise) h =
      (all_map (λ a. (a.condition.0 < e) × BlockBelow k a.body) (λ a. (a.condition.0 < f) × BlockBelow k a.body) (λ a p. (omega (arith, p.0, n), p.1)) arms h.0, h.1)
  NamedStmtParts-more k (stmts.While condition clauses body) h =
      (omega (arith, h.0, n), all_map (λ c. c.condition.0 < e) (λ c. c.condition.0 < f) (λ c p. omega (arith, p, n)) clauses h.1, h.2)
  NamedStmtParts-more k (stmts.Break outwards) h = tt
  NamedStmtParts-more k (stmts.Continue outwards) h = tt
  NamedStmtParts-more k (stmts.Return value) h = IsBelow-more e f n value h
  NamedStmtParts-more k (stmts.Yield value) h = omega (arith, h, n)
  NamedStmtParts-more k (stmts.Assert goal v) h = (omega (arith, h.0, n), AxiomBelow-more v h.1)

  pub NamedStmtsOrdered-more : (ns : List NamedStmtNode) (k : ℕ) → NamedStmtsOrdered t e k ns → NamedStmtsOrdered u f k ns
  NamedStmtsOrdered-more [] k o = tt
  NamedStmtsOrdered-more (x ∷ ns) k o = (NamedStmtParts-more k x.stmt o.0, NamedStmtsOrdered-more ns (k + 1) o.1)

  pub NamedVarBelow-more : (x : NamedVar) → NamedVarBelow t e x → NamedVarBelow u f x
  NamedVarBelow-more x h = (omega (arith, h.0, m), NamedTypeBelow-more e f n x.of h.1)

  pub NamedVarsBelow-more : (xs : List NamedVar) → AllByRecursion (NamedVarBelow t e) xs → AllByRecursion (NamedVarBelow u f) xs
  NamedVarsBelow-more xs h = all_map (NamedVarBelow t e) (NamedVarBelow u f) NamedVarBelow-more xs h

  pub NamedConstBelow-more : (c : NamedConst) → NamedConstBelow t e c → NamedConstBelow u f c
  NamedConstBelow-more c h = (omega (arith, h.0, m), NamedTypeBelow-more e f n c.of h.1, omega (arith, h.2, n))

  pub NamedStructBelow-more : (s : NamedStruct) → NamedStructBelow t e s → NamedStructBelow u f s
  NamedStructBelow-more s h = (omega (arith, h.0, m), NamedVarsBelow-more s.fields h.1)

  pub NamedResultBelow-more : (r : Option NamedType) → NamedResultBelow e r → NamedResultBelow f r
  NamedResultBelow-more None h = tt
  NamedResultBelow-more (Some r) h = NamedTypeBelow-more e f n r h

  pub NamedMethodBelow-more : (k l : ℕ) → k ≤ l → (x : NamedMethod) → NamedMethodBelow t e k x → NamedMethodBelow u f l x
  NamedMethodBelow-more k l o x h =
      (omega (arith, h.0, m), NamedVarsBelow-more x.args h.1, NamedVarsBelow-more x.locals h.2, NamedResultBelow-more x.gives h.3, BlockBelow-more k l o x.body h.4)

-- Texts are added: the package's texts stay distinct.
pub IsShaped-text : (p : NamedParts) (text : List ℕ) (new : List (List ℕ)) → IsShaped p → JoinsText p.texts new text → AreDistinct new
    → IsShaped (record p { texts = new })
IsShaped-text p text new s (inl e) d = let P : List (List ℕ) → Type 0 = λ ts. IsShaped (record p { texts = ts }) in subst P (sym e) s
IsShaped-text p text new s (inr e) d =
    let long : length new ≡ length (p.texts ++ text ∷ []) = ap length e in
    let more : length p.texts ≤ length new = omega (arith, long, length-append p.texts (text ∷ [])) in
    let t = length p.texts in
    let u = length new in
    let n = length p.exprs in
    let same : n ≤ n = omega arith in
    let k = length p.stmts in
    let same_stmts : k ≤ k = omega arith in
    record {
      texts = d;
      exprs = s.exprs;
      stmts = NamedStmtsOrdered-more t u n n more same p.stmts 0 s.stmts;
      consts = all_map (NamedConstBelow t n) (NamedConstBelow u n) (NamedConstBelow-more t u n n more same) p.consts s.consts;
      statuses = all_map (λ (x : Name). x.text.0 < t) (λ (x : Name). x.text.0 < u) (λ x h. omega (arith, h, more)) p.statuses s.statuses;
      structs = all_map (NamedStructBelow t n) (NamedStructBelow u n) (NamedStructBelow-more t u n n more same) p.structs s.structs;
      methods = all_map (NamedMethodBelow t n k) (NamedMethodBelow u n k) (NamedMethodBelow-more t u n n more same k k same_stmts) p.methods s.methods;
    }

-- Whether or not it comes to an answer.
pub IsShaped-interned : {A E : Type 0} (r : Result A E) (p : NamedParts) (text : List ℕ) (new : List (List ℕ)) → IsShaped p
    → OnOk r (JoinsText p.texts new text) → OnErr r (new ≡ p.texts) → AreDistinct new → IsShaped (record p { texts = new })
IsShaped-interned (Ok x) p text new s joins err d = IsShaped-text p text new s joins d
IsShaped-interned (Err x) p text new s joins err d = let P : List (List ℕ) → Type 0 = λ ts. IsShaped (record p { texts = ts }) in subst P (sym err) s

-- A node is added; `added` tells whether it was.
pub IsShaped-expr : (p : NamedParts) (x : NamedExprNode) (added : Bool) (new : List NamedExprNode) → IsShaped p → NamedExprParts (length p.exprs) x.expr
    → new ≡ (if added then p.exprs ++ x ∷ [] else p.exprs) → IsShaped (record p { exprs = new })
IsShaped-expr p x false new s h e = let P : List NamedExprNode → Type 0 = λ es. IsShaped (record p { exprs = es }) in subst P (sym e) s
IsShaped-expr p x true new s h e =
    let longer = p.exprs ++ x ∷ [] in
    let t = length p.texts in
    let same : t ≤ t = omega arith in
    let n = length p.exprs in
    let l = length longer in
    let more : n ≤ l = omega (arith, length-append p.exprs (x ∷ [])) in
    let k = length p.stmts in
    let same_stmts : k ≤ k = omega arith in
    let spot : n ≡ 0 + n = omega arith in
    let Q : ℕ → Type 0 = λ j. NamedExprParts j x.expr in
    let shaped : IsShaped (record p { exprs = longer }) = record {
      texts = s.texts;
      exprs = exprs_push p.exprs 0 x s.exprs (subst Q spot h);
      stmts = NamedStmtsOrdered-more t t n l same more p.stmts 0 s.stmts;
      consts = all_map (NamedConstBelow t n) (NamedConstBelow t l) (NamedConstBelow-more t t n l same more) p.consts s.consts;
      statuses = s.statuses;
      structs = all_map (NamedStructBelow t n) (NamedStructBelow t l) (NamedStructBelow-more t t n l same more) p.structs s.structs;
      methods = all_map (NamedMethodBelow t n k) (NamedMethodBelow t l k) (NamedMethodBelow-more t t n l same more k k same_stmts) p.methods s.methods;
    } in
    let P : List NamedExprNode → Type 0 = λ es. IsShaped (record p { exprs = es }) in subst P (sym e) shaped

pub IsShaped-stmt : (p : NamedParts) (x : NamedStmtNode) (added : Bool) (new : List NamedStmtNode) → IsShaped p → NamedStmtParts (length p.texts) (length p.exprs) (length p.stmts) x.stmt
    → new ≡ (if added then p.stmts ++ x ∷ [] else p.stmts) → IsShaped (record p { stmts = new })
IsShaped-stmt p x false new s h e = let P : List NamedStmtNode → Type 0 = λ ss. IsShaped (record p { stmts = ss }) in subst P (sym e) s
IsShaped-stmt p x true new s h e =
    let longer = p.stmts ++ x ∷ [] in
    let t = length p.texts in
    let same : t ≤ t = omega arith in
    let n = length p.exprs in
    let same_exprs : n ≤ n = omega arith in
    let k = length p.stmts in
    let l = length longer in
    let more : k ≤ l = omega (arith, length-append p.stmts (x ∷ [])) in
    let spot : k ≡ 0 + k = omega arith in
    let Q : ℕ → Type 0 = λ j. NamedStmtParts t n j x.stmt in
    let shaped : IsShaped (record p { stmts = longer }) = record {
      texts = s.texts;
      exprs = s.exprs;
      stmts = stmts_push t n p.stmts 0 x s.stmts (subst Q spot h);
      consts = s.consts;
      statuses = s.statuses;
      structs = s.structs;
      methods = all_map (NamedMethodBelow t n k) (NamedMethodBelow t n l) (NamedMethodBelow-more t t n n same same_exprs k l more) p.methods s.methods;
    } in
    let P : List NamedStmtNode → Type 0 = λ ss. IsShaped (record p { stmts = ss }) in subst P (sym e) shaped
