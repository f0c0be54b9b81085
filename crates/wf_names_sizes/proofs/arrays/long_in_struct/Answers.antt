use Rattle.std.proofs.Common.{◌≡◌, Some, ◌∷◌, [], ◌++◌, map, ◌∙◌, sym, ap, subst}
use Rattle.std.specs.List.{flat_map}
use Rattle.std.proofs.lemmas.List.{append-nil}
use Rattle.wf_text.specs.Precedence.{soonest}
use Rattle.wf_ast.specs.declared.parsed.DeclNode.{DeclNode}
use Rattle.wf_ast.specs.ParsedTrees.{expr_trees, stmt_trees, fields_at, decl_made}
use Rattle.wf_names_rules.specs.Declarations.{variables, structs_of, declared_in}
use Rattle.wf_names_sizes.specs.LongArrays.{too_long_array, struct_longs}
use Rattle.wf_names_sizes.proofs.ArrayLemmas.{longs_by}
use Rattle.wf_names_sizes.proofs.ValueLemmas.{not_hidden}
use Rattle.wf_names_sizes.proofs.arrays.long_in_struct.Goals as goal

pub returns-in-Struct : goal.returns-in-Struct
returns-in-Struct c = λ node h.
    let d = declared_in c.args.env.now.parsed.now in
    let es = expr_trees c.args.env.now.parsed.now.exprs in
    let ts = stmt_trees c.args.env.now.parsed.now.exprs c.args.env.now.parsed.now.stmts in
    let vs = variables (fields_at es c.in-Struct.fields) in
    let same : c.decl-node.result.now ≡ node = (let both : Some c.decl-node.result.now ≡ Some node = sym c.decl-node.ensures.node ∙ h in cc both) in
    let way : soonest c.args.found.now (map (too_long_array d []) vs) ≡ soonest c.args.found.now (map (too_long_array d []) vs ++ []) = ap (soonest c.args.found.now) (sym (append-nil (map (too_long_array d []) vs))) in
    let found = (rw c.as_slice.ensures at c.long_fields.ensures) ∙ ap (soonest c.args.found.now) (longs_by d [] c.args.env.now c.requires.knows (not_hidden c.args.env.now c.requires.outside) vs) ∙ way in
    let P : DeclNode → Type 0 = λ n. c.long_fields.new.found ≡ soonest c.args.found.now (flat_map (struct_longs d) (structs_of (decl_made es ts n.public n.decl n.at ∷ []))) in
    subst P same (rw c.in-Struct.is found)
