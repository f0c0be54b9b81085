-- Letters, digits and `_` make up the names of C, and what stands between quotes makes up its strings.
use Rattle.std.proofs.Common.{◌≡◌, ◌<◌, ◌∙◌, ℕ, Bool, true, false, not, ◌&&◌, nat_lt, List, [], ◌∷◌, length, map, Option, None, Some, slice_get, unwrap_or, refl, ap, subst, arith}
use Rattle.std.proofs.lemmas.Bool.Decides.{nat_tests}
use Rattle.std.proofs.lemmas.Option.{slice_get_within}
use Rattle.std.proofs.lemmas.List.{length-map}
use Rattle.std.specs.List.{AllByRecursion, list_all}
use Rattle.wf_ast.specs.declared.declarations.Method.{Method}
use Rattle.wf_ast.specs.declared.declarations.Struct.{Struct}
use Rattle.wf_ast.specs.declared.declarations.Var.{Var}
use Rattle.wf_ast.specs.declared.typed_code.Block as typed_code
use Rattle.wf_ast.specs.declared.typed_nodes.TypedNodes.{TypedNodes}
use Rattle.wf_ast.specs.TypedPackage.{MethodTree, variable_of, struct_of, methods_of, package_of}
use Rattle.wf_tokens.specs.Runs.{is_letter, is_run, is_text_byte, begins}
use Rattle.wf_types_rules.specs.Judgements.{two_questions}
use Rattle.c_text.specs.CSpelling.{is_word_byte, is_string_byte, has_double_question, is_string}
use Rattle.wf_typed_laws.specs.PlainNames.{IsPlain, ArePlain, HasPlainFields, HasPlainVariables}
use Rattle.wf_typed_laws.specs.StatusTexts.{is_plain_text}
use Rattle.wf_exprs.specs.Scopes.{are_named}
use Rattle.wf_lower_stmts.specs.BodyNodes.{is_spelt_method, is_spelt_struct}
use Rattle.wf_lower_names.specs.SpeltNodes.{NodesAreSpelt}

run-is-word : (b : ℕ) → is_run b ≡ true → is_word_byte b ≡ true
run-is-word b h = grind (arith, nat_tests, h)

and-both : (a b : Bool) → (a && b) ≡ true → (a ≡ true) × (b ≡ true)
and-both true true h = (refl, refl)
and-both true false h = absurd (cc h)
and-both false b h = absurd (cc h)

runs-are-words : (name : List ℕ) → list_all is_run name ≡ true → list_all is_word_byte name ≡ true
runs-are-words [] h = refl
runs-are-words (b ∷ name) h =
    let both = and-both (is_run b) (list_all is_run name) h in
    let first = run-is-word b both.0 in
    let others = runs-are-words name both.1 in
    rw (first, others) refl

text-is-string : (b : ℕ) → is_text_byte b ≡ true → is_string_byte b ≡ true
text-is-string b h = grind (arith, nat_tests, h)

texts-are-strings : (text : List ℕ) → list_all is_text_byte text ≡ true → list_all is_string_byte text ≡ true
texts-are-strings [] h = refl
texts-are-strings (b ∷ text) h =
    let both = and-both (is_text_byte b) (list_all is_text_byte text) h in
    let first = text-is-string b both.0 in
    let others = texts-are-strings text both.1 in
    rw (first, others) refl

same-questions : (text : List ℕ) → has_double_question text ≡ two_questions text
same-questions [] = refl
same-questions (a ∷ []) = refl
same-questions (a ∷ b ∷ text) = let others = same-questions (b ∷ text) in rw others refl

plain-is-string : (text : List ℕ) → is_plain_text text ≡ true → is_string text ≡ true
plain-is-string text h =
    let both = and-both (list_all is_text_byte text) (not (two_questions text)) h in
    let bytes = texts-are-strings text both.0 in
    let asks : not (has_double_question text) ≡ true = ap not (same-questions text) ∙ both.1 in
    rw (bytes, asks) refl

plain-are-strings : (texts : List (List ℕ)) → list_all is_plain_text texts ≡ true → list_all is_string texts ≡ true
plain-are-strings [] h = refl
plain-are-strings (text ∷ texts) h =
    let both = and-both (is_plain_text text) (list_all is_plain_text texts) h in
    let first = plain-is-string text both.0 in
    let others = plain-are-strings texts both.1 in
    rw (first, others) refl

-- A plain name has bytes, so it has a text of its own.
abbrev WordAt : List (List ℕ) → ℕ → Type 0
WordAt texts n = (nat_lt n (length texts) && list_all is_word_byte (unwrap_or (slice_get texts n) [])) ≡ true

word-at : (texts : List (List ℕ)) (n : ℕ) → IsPlain (unwrap_or (slice_get texts n) []) → WordAt texts n
word-at texts n plain = by_case (slice_get texts n) refl
  where
    words : list_all is_word_byte (unwrap_or (slice_get texts n) []) ≡ true
    words = runs-are-words (unwrap_or (slice_get texts n) []) plain.spelt.run

    by_case : (found : Option (List ℕ)) → slice_get texts n ≡ found → WordAt texts n
    by_case None e =
        let none : begins is_letter [] ≡ true = subst (λ (it : Option (List ℕ)). begins is_letter (unwrap_or it []) ≡ true) e plain.spelt.first in
        absurd (cc none)
    by_case (Some text) e =
        let within = slice_get_within texts n text e in
        let there : nat_lt n (length texts) ≡ true = grind (arith, nat_tests, within) in
        rw (there, words) refl

module _ (nodes : TypedNodes) where
  variables-spelt : (xs : List Var) → ArePlain (map (variable_of nodes) xs) → are_named nodes xs ≡ true
  variables-spelt [] a = refl
  variables-spelt (x ∷ xs) a =
      let first = word-at nodes.texts x.name.0 a.0 in
      let others = variables-spelt xs a.1 in
      rw (first, others) refl

  struct-spelt : (s : Struct) → HasPlainFields (struct_of nodes s) → is_spelt_struct nodes s ≡ true
  struct-spelt s a =
      let name = word-at nodes.texts s.name.0 a.name in
      let fields = variables-spelt s.fields a.fields in
      rw (name, fields) refl

  structs-spelt : (ss : List Struct) → AllByRecursion HasPlainFields (map (struct_of nodes) ss) → list_all (is_spelt_struct nodes) ss ≡ true
  structs-spelt [] a = refl
  structs-spelt (s ∷ ss) a =
      let first = struct-spelt s a.0 in
      let others = structs-spelt ss a.1 in
      rw (first, others) refl

  abbrev OwnersThere : List MethodTree → Type 0
  OwnersThere ms = AllByRecursion (λ (m : MethodTree). m.of < length (map (struct_of nodes) nodes.structs)) ms

  method-spelt : (m : Method) → IsPlain (unwrap_or (slice_get nodes.texts m.name.0) []) → ArePlain (map (variable_of nodes) m.args) → ArePlain (map (variable_of nodes) m.locals)
      → m.of.0 < length (map (struct_of nodes) nodes.structs) → is_spelt_method nodes m ≡ true
  method-spelt m n a l o =
      let count : length (map (struct_of nodes) nodes.structs) ≡ length nodes.structs = length-map nodes.structs (struct_of nodes) in
      let owner : nat_lt m.of.0 (length nodes.structs) ≡ true = grind (arith, nat_tests, o, count) in
      let name = word-at nodes.texts m.name.0 n in
      let args = variables-spelt m.args a in
      let locals = variables-spelt m.locals l in
      rw (owner, name, args, locals) refl

  methods-spelt : (ms : List Method) (bodies : List typed_code.Block) → length bodies ≡ length ms → AllByRecursion HasPlainVariables (methods_of nodes ms bodies) → OwnersThere (methods_of nodes ms bodies)
      → list_all (is_spelt_method nodes) ms ≡ true
  methods-spelt [] bodies count a o = refl
  methods-spelt (m ∷ ms) [] count a o = absurd (cc count)
  methods-spelt (m ∷ ms) (body ∷ bodies) count a o =
      let first = method-spelt m a.0.name a.0.args a.0.locals o.0 in
      let more : length bodies ≡ length ms = cc count in
      let others = methods-spelt ms bodies more a.1 o.1 in
      rw (first, others) refl

pub nodes_are_spelt : NodesAreSpelt
unfolding package_of
nodes_are_spelt nodes typed plain =
    record {
      words = record {
        package_word = runs-are-words nodes.package plain.name;
        struct_words = structs-spelt nodes nodes.structs plain.names.structs;
        method_words = methods-spelt nodes nodes.methods nodes.bodies typed.bodied plain.names.methods plain.owners;
      };
      strings = plain-are-strings nodes.statuses plain.texts;
    }
