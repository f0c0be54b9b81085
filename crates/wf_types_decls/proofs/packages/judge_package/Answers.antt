use Rattle.std.proofs.Common.{◌≡◌, ◌∙◌, ap, sym, subst, map, [], Option}
use Rattle.std.specs.List.{flat_map}
use Rattle.wf_text.specs.declared.rules.Refusal.{Refusal}
use Rattle.wf_text.specs.Precedence.{Decides}
use Rattle.wf_named.specs.NamedParts.{named_package}
use Rattle.wf_named.specs.NamedTrees.{expr_trees, stmt_trees, const_made, method_made}
use Rattle.wf_types_rules.specs.DeclaredTypes.{for_types}
use Rattle.wf_types_rules.specs.Parts.{const_sites}
use Rattle.wf_types_rules.specs.TypeRules.{Breaks}
use Rattle.wf_types_rules.proofs.FirstBreakLaws.{deciding-decides}
use Rattle.wf_types_decls.specs.declared.packages.Judged.{Judged}
use Rattle.wf_types_decls.specs.Packages.{decided, head_of, heads_of, body_sites, field_types, IsAround, IsJudged}
use Rattle.wf_types_decls.proofs.HeadLemmas.{package_decided, all_four}
use Rattle.wf_types_decls.proofs.PackageLemmas.{for_types_known, fields_known, methods_are}
use Rattle.wf_types_decls.proofs.packages.judge_package.Goals as goal

pub judge_heads-requires : goal.judge_heads-requires
judge_heads-requires c = for_types_known c.args.nodes.now c.lent-around.result (c.lent-around.ensures ∙ c.in_ok-types.ensures.around)

pub judge_rest-requires-clause-types : goal.judge_rest-requires-clause-types
judge_rest-requires-clause-types c = for_types_known c.args.nodes.now c.in_ok-types.types c.in_ok-types.ensures.around

pub judge_rest-requires-clause-fields : goal.judge_rest-requires-clause-fields
judge_rest-requires-clause-fields c =
    let n = c.args.nodes.now in
    let types = c.lent-around.result in
    fields_known n types (for_types_known n types (c.lent-around.ensures ∙ c.in_ok-types.ensures.around)) c.in_ok-fields.fields c.in_ok-fields.ensures.of

pub judge_rest-requires-clause-heads : goal.judge_rest-requires-clause-heads
judge_rest-requires-clause-heads c = c.in_ok-heads.ensures.of ∙ ap (map (head_of (named_package c.args.nodes.now))) (sym (methods_are c.args.nodes.now))

pub returns : goal.returns
returns c =
    let n = c.args.nodes.now in
    let p = named_package n in
    let made = method_made n.texts (expr_trees n.exprs) (stmt_trees n.texts n.exprs n.stmts) in
    let types = c.lent-around.result in
    let P : Option Refusal → Type 0 = λ r. Decides (Breaks p) r in
    all_four (λ (j : Judged). j.refusal ≡ decided c.judge_heads.new.found (flat_map (body_sites p) (map made n.methods))) (λ (j : Judged). j.fields ≡ field_types p) (λ (j : Judged). j.heads ≡ heads_of p) (λ (j : Judged). IsAround p j.around)
    (IsJudged p) c.judge_rest.result
    (λ j found fields heads around.
    let computed = package_decided n types c.judge_consts.new.found c.judge_statuses.new.found c.judge_fields.new.found c.judge_heads.new.found j.refusal
    (for_types_known n types (c.lent-around.ensures ∙ c.in_ok-types.ensures.around)) (c.in_ok-types.ensures.found ∙ ap (λ f. decided f (const_sites [] (map (const_made n.texts (expr_trees n.exprs)) n.consts))) c.nothing-found.ensures) (c.judge_statuses.ensures (for_types p)) c.in_ok-fields.ensures.found c.in_ok-heads.ensures.found found in
    record { decides = subst P (sym computed) (deciding-decides p); computed = computed; fields = fields; heads = heads; around = around })
    c.judge_rest.ensures.found c.judge_rest.ensures.fields c.judge_rest.ensures.heads c.judge_rest.ensures.around
