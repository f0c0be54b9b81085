-- What stands after assignments, by what is written.
use Rattle.std.proofs.Common.{◌≡◌, List, Option, None, refl, ap, ◌∙◌}
use Rattle.wf_ast.specs.declared.things.Thing.{Thing}
use Rattle.wf_ast.specs.declared.types.Ty.{Ty}
use Rattle.wf_ast.specs.TypedTree.{number, read, element, link, convert, length_of, asked, slice, array, cut, status, held, no_status, truth, flag, compare, same_status, junction, negation, closed, has_category, ValueTree, numeric, logical, state, elements, io, lost}
use Rattle.wf_ast.specs.TypedTrees.{target_of}
use Rattle.wf_facts_exprs.specs.Claims.{Claim}
use Rattle.wf_bounds_stmts.specs.Targets.{written_by, without_some, number_written, assigned}
use Rattle.wf_bounds_stmts.specs.Nodes.{known_variable, number_variable, Seen}

assigned-by : (fs : List Claim) (w v : ValueTree) → assigned fs (target_of w) None v ≡ known_variable (number_written (target_of w)) w v (without_some (written_by (target_of w)) fs)
assigned-by fs (numeric (read at of p)) (numeric t) = refl
assigned-by fs (numeric (read at of p)) (logical c) = refl
assigned-by fs (numeric (read at of p)) (state c) = refl
assigned-by fs (numeric (read at of p)) (elements c) = refl
assigned-by fs (numeric (read at of p)) (io at' a) = refl
assigned-by fs (numeric (read at of p)) lost = refl
assigned-by fs (numeric (element at of cells index)) v = refl
assigned-by fs (numeric (number at n)) v = refl
assigned-by fs (numeric (link at sign op bits joined a b)) v = refl
assigned-by fs (numeric (convert at sign bits a)) v = refl
assigned-by fs (numeric (length_of at cells)) v = refl
assigned-by fs (numeric (asked at q a)) v = refl
assigned-by fs (logical (flag at p)) v = refl
assigned-by fs (logical (truth at b)) v = refl
assigned-by fs (logical (compare at sign a op b)) v = refl
assigned-by fs (logical (same_status at sign a one b)) v = refl
assigned-by fs (logical (junction at both joined a b)) v = refl
assigned-by fs (logical (negation at a)) v = refl
assigned-by fs (logical (closed at a)) v = refl
assigned-by fs (logical (has_category at a category)) v = refl
assigned-by fs (state (held at p)) v = refl
assigned-by fs (state (status at n)) v = refl
assigned-by fs (state no_status) v = refl
assigned-by fs (elements (slice at bits p)) v = refl
assigned-by fs (elements (array at of count p)) v = refl
assigned-by fs (elements (cut at cells from to)) v = refl
assigned-by fs (io at a) v = refl
assigned-by fs lost v = refl

pub assigned-seen : (fs : List Claim) (w v : ValueTree) (ty : Ty) (x : Option Thing) → Seen w ty x → assigned fs (target_of w) None v ≡ known_variable (number_variable ty x) w v (without_some x fs)
assigned-seen fs w v ty x h = assigned-by fs w v ∙ ap (λ y. known_variable y w v (without_some (written_by (target_of w)) fs)) h.variable ∙ ap (λ y. known_variable (number_variable ty x) w v (without_some y fs)) h.thing
