use Rattle.std.proofs.Common.{◌≡◌, ◌∙◌, false, length, sym, subst}
use Rattle.std.specs.Bool.{◌==◌}
use Rattle.wf_named.specs.NamedTrees.{core_at}
use Rattle.wf_typed_exprs.proofs.WidthLemmas.{prefixed-no_width, bounded-no_width}
use Rattle.wf_typed_exprs.proofs.forms.plain_width.Goals as goal

pub returns-in-Some : goal.returns-in-Some
returns-in-Some c = λ ts. rw c.in-Some.is (sym (bounded-no_width ts c.args.of.now.prefixes c.args.of.now.core _))

pub returns-else-is_empty : goal.returns-else-is_empty
returns-else-is_empty c =
    let t = c.args.of.now in
    let some : false ≡ (length t.prefixes == 0) = subst (λ ps. false ≡ (length ps == 0)) c.as_slice.ensures (sym c.if-is_empty.false ∙ c.is_empty.ensures) in
    λ ts. sym (prefixed-no_width ts t.prefixes (core_at ts t.core t.bounds) some)
