use Rattle.std.proofs.Common.{◌≡◌, ℕ, List, sym, subst, refl}
use Rattle.wf_ast.specs.ParsedTrees.{expr_trees, fields_at}
use Rattle.wf_names_rules.specs.Declarations.{Structure, place_in, variables}
use Rattle.wf_names_rules.specs.Tables.{has_number, pair_sort, pair_place}
use Rattle.wf_names_scopes.specs.Agreeing.{sort_among}
use Rattle.wf_names_scopes.specs.Growing.{with_fields}
use Rattle.wf_names_scopes.proofs.NumberLemmas.{number_added}
use Rattle.wf_names_scopes.proofs.PackageLemmas.{fields_new, fields_kept, taken, untaken, both_ok}
use Rattle.wf_names_scopes.proofs.tables.add_struct.Goals as goal

pub returns-then-branch : goal.returns-then-branch
returns-then-branch c =
    let es = expr_trees c.args.parsed.now.exprs in
    let s : Structure = record { name = c.args.name; fields = variables (fields_at es c.args.fields.now) } in
    let known = c.args.tables.now.structs in
    let old = c.args.tables.now.fields in
    let new = c.add_fields.new.table in
    let fresh = untaken c.in_ok-add_number.field-0 (has_number known c.args.name.text.0) c.in_ok-add_number.ensures.fresh c.if-branch.true in
    let P : List (List ℕ) → Type 0 = λ texts. (other text : ℕ) → pair_sort new (other, text) ≡ with_fields (pair_sort old) s.name.text.0 (sort_among texts) s.fields other text in
    both_ok c.add_fields.result (λ sorts places d e p. record {
      statuses = p.statuses;
      structs = number_added 0 (λ (s : Structure). s.name) d.structs s known c.add_number.new.names c.in_ok-add_number.ensures.next c.in_ok-add_number.ensures.numbers p.structs;
      constants = p.constants;
      fields = fields_new d s known p.structs (sort_among d.texts) (λ text. refl) (pair_sort old) p.fields fresh (pair_sort new) (subst P (sym e) sorts);
      places = fields_new d s known p.structs place_in (λ text. refl) (pair_place old) p.places fresh (pair_place new) (places es);
      methods = p.methods;
      method_names = p.method_names;
      publics = p.publics;
      variables = p.variables;
    }) c.add_fields.ensures.sorts c.add_fields.ensures.places

pub returns-else-branch : goal.returns-else-branch
returns-else-branch c =
    let s : Structure = record { name = c.args.name; fields = variables (fields_at (expr_trees c.args.parsed.now.exprs) c.args.fields.now) } in
    let known = c.args.tables.now.structs in
    let old = c.args.tables.now.fields in
    let there = taken c.in_ok-add_number.field-0 (has_number known c.args.name.text.0) c.in_ok-add_number.ensures.fresh c.if-branch.false in
    λ d e p. record {
      statuses = p.statuses;
      structs = number_added 0 (λ (s : Structure). s.name) d.structs s known c.add_number.new.names c.in_ok-add_number.ensures.next c.in_ok-add_number.ensures.numbers p.structs;
      constants = p.constants;
      fields = fields_kept d s known p.structs (sort_among d.texts) (λ text. refl) (pair_sort old) p.fields there;
      places = fields_kept d s known p.structs place_in (λ text. refl) (pair_place old) p.places there;
      methods = p.methods;
      method_names = p.method_names;
      publics = p.publics;
      variables = p.variables;
    }
