-- What a copy to a slice makes.
use Rattle.std.proofs.Common.{◌≡◌, ◌∙◌, ℕ, ap, Result, IfOk}
use Rattle.wf_text.specs.declared.faults.NoMemory.{NoMemory}
use Rattle.wf_ast.specs.TypedTree.{SliceTree, Target, copy_to_slice}
use Rattle.c_text.specs.declared.ids.CStmtId.{CStmtId}
use Rattle.c_text.specs.CNodes.{Nodes, code_of, expr_of}
use Rattle.c_text.specs.CTree.{Code}
use Rattle.wf_exprs.specs.declared.rated.Pair.{Pair as PairNode}
use Rattle.wf_exprs.specs.declared.rated.Rated.{Rated as RatedNode}
use Rattle.wf_exprs.specs.Exprs.{rated, widened, lowered_slice}
use Rattle.wf_exprs.specs.Grown.{Grows, HasCode}
use Rattle.wf_exprs.specs.Making.{HasPair, HasRated, rated_in}
use Rattle.wf_exprs.specs.Names.{Names}
use Rattle.wf_exprs.proofs.Growing.{grows_on}
use Rattle.wf_lower_stmts.specs.Forms.{size_local}
use Rattle.wf_lower_stmts.specs.Statements.{least_size, lower_written, move, put_into, slice_bits}
use Rattle.wf_lower_stmts.proofs.HereLaws.{retell_code}

pub copied : (names : Names) (target : Target) (to source : SliceTree) (start : Code) (bits r1 r2 : ℕ) (u1 u2 u3 u4 u5 u6 : Nodes) (a b : PairNode) (o : RatedNode) (r : Result CStmtId NoMemory)
    → Grows u1 u3 → Grows u2 u3 → Grows u3 u4 → Grows u4 u5 → bits ≡ slice_bits to
    → HasCode u1 r1 (put_into names target size_local start) → HasPair u2 a (lowered_slice names to) → HasPair u3 b (lowered_slice names source)
    → HasCode u4 r2 (move bits (expr_of u3 a.pointer.0) (expr_of u3 b.pointer.0) (code_of u3 r1))
    → HasRated u5 o (widened 64 (rated_in u4 b.length))
    → IfOk r (λ code. HasCode u6 code.0 (least_size (expr_of u5 a.length.code.0) (expr_of u5 o.code.0) (code_of u5 r2)))
    → IfOk r (λ code. HasCode u6 code.0 (lower_written names target (copy_to_slice to source) start))
copied names target to source start bits r1 r2 u1 u2 u3 u4 u5 u6 a b o r g1 g2 g3 g4 width told first second moved wide made =
    let x = lowered_slice names to in
    let y = lowered_slice names source in
    let far = grows_on g2 (grows_on g3 g4) in
    let one : expr_of u5 a.length.code.0 ≡ x.length.code = far.exprs a.length.code.0 first.length.code.there ∙ first.length.code.is in
    let same : expr_of u4 b.length.code.0 ≡ y.length.code = g3.exprs b.length.code.0 second.length.code.there ∙ second.length.code.is in
    let other : expr_of u5 o.code.0 ≡ (widened 64 y.length).code =
    wide.code.is ∙ ap (λ e. (widened 64 (rated e b.length.ty)).code) same ∙ ap (λ t. (widened 64 (rated y.length.code t)).code) second.length.ty in
    let pointer : expr_of u3 a.pointer.0 ≡ x.pointer = g2.exprs a.pointer.0 first.pointer.there ∙ first.pointer.is in
    let rest : code_of u3 r1 ≡ put_into names target size_local start = g1.stmts r1 told.there ∙ told.is in
    let whole : code_of u5 r2 ≡ move (slice_bits to) x.pointer y.pointer (put_into names target size_local start) =
    g4.stmts r2 moved.there ∙ moved.is ∙ ap (λ n. move n (expr_of u3 a.pointer.0) (expr_of u3 b.pointer.0) (code_of u3 r1)) width
    ∙ ap (λ e. move (slice_bits to) e (expr_of u3 b.pointer.0) (code_of u3 r1)) pointer
    ∙ ap (λ e. move (slice_bits to) x.pointer e (code_of u3 r1)) second.pointer.is
    ∙ ap (λ c. move (slice_bits to) x.pointer y.pointer c) rest in
    retell_code u6 _ _ r
    (ap (λ e. least_size e (expr_of u5 o.code.0) (code_of u5 r2)) one ∙ ap (λ e. least_size x.length.code e (code_of u5 r2)) other ∙ ap (λ c. least_size x.length.code (widened 64 y.length).code c) whole) made
