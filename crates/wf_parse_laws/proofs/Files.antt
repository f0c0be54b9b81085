-- The files of a package are read, or refused.
use Rattle.std.proofs.Common.{◌≡◌, ◌⊎◌, inl, inr, ℕ, suc, ◌+◌, ◌-◌, Bool, true, false, ◌||◌, Option, None, Some, List, [], ◌∷◌, ◌++◌, length, refl, sym, ◌∙◌, ap, subst, append-nil, append_assoc}
use Rattle.std.specs.List.{slice_get}
use Rattle.std.specs.Str.{bytes_eq}
use Rattle.std.proofs.lemmas.Slice.Eq.{bytes_eq-Decides}
use Rattle.wf_text.specs.declared.rules.Refusal.{Refusal}
use Rattle.wf_ast.specs.ParsedTree.{DeclTree}
use Rattle.wf_ast.specs.ReadPackage.{decls_of}
use Rattle.wf_ast.proofs.TreeLemmas.{slice_get-seam}
use Rattle.wf_tokens.specs.declared.kinds.TokenKind.{TokenKind}
use Rattle.wf_tokens.specs.declared.kinds.TokenKind.TheVariants as spelt
use Rattle.wf_tokens.specs.Places.{behind_bytes, first_place}
use Rattle.wf_tokens.specs.Spelling.{Item, IsTokensOf, StopsAt}
use Rattle.wf_parse_grammar.specs.declared.symbols.Sym.TheVariants.{File}
use Rattle.wf_parse_grammar.specs.declared.symbols.Want.TheVariants.{Read}
use Rattle.wf_parse_grammar.specs.declared.tokens.Kind.{Kind}
use Rattle.wf_parse_grammar.specs.declared.tokens.Kind.TheVariants as kinds
use Rattle.wf_parse_grammar.specs.declared.tokens.Token.{Token}
use Rattle.wf_parse_grammar.specs.Building.{Ending, Built, Refused}
use Rattle.wf_parse_grammar.specs.Values.{Made}
use Rattle.wf_parse.specs.Kinds.{KindIs, word_kind, symbol_kind, unquoted}
use Rattle.wf_parse.specs.Lexing.{TokensAre, IsWholeFile, AreTokensOf}
use Rattle.wf_parse.specs.Parsing.{ReadsFile, RefusesFile, ReadsFiles, RefusesFiles, refusal_of}
use Rattle.wf_parse.specs.Reading.{read_file}
use Rattle.wf_parse.specs.Texts.{text_of, is_among, with_text, texts_behind}
use Rattle.wf_parse.proofs.Lexed.{tokens_stay}
use Rattle.wf_parse.proofs.Outcomes.{bad_never_built}
use Rattle.wf_parse.proofs.ReadingVerdicts.{refused_is_wrong, built_is_accepted}
use Rattle.wf_parse.proofs.TextNumbers.{with_text-grows}
use Rattle.wf_parse_laws.specs.ReadingLaws.{IsReadOrRefused, FilesAreReadOrRefused}
use Rattle.wf_parse_laws.proofs.Nodes.{package-of}
use Rattle.wf_parse_laws.proofs.Tokens.{tokens-or-stop}

-- A text that has joined has a number.
abbrev Numbered : List (List ℕ) → List ℕ → Type 0
Numbered texts text = (i : ℕ) × (slice_get texts i ≡ Some text)

among-numbered : (known : List (List ℕ)) (text : List ℕ) → is_among known text ≡ true → Numbered known text
among-numbered [] text e = absurd (cc e)
among-numbered (first ∷ others) text e = by_case (bytes_eq first text) refl (among-numbered others text)
  where
    by_case : (b : Bool) → bytes_eq first text ≡ b → (is_among others text ≡ true → Numbered others text) → Numbered (first ∷ others) text
    by_case true h later = (0, ap Some ((bytes_eq-Decides first text).0 h))
    by_case false h later =
        let rest : is_among others text ≡ true = sym (ap (λ b. b || is_among others text) h) ∙ e in
        let there = later rest in
        (suc there.0, there.1)

joined-numbered : (known : List (List ℕ)) (text : List ℕ) → Numbered (with_text known (Some text)) text
joined-numbered known text = by_case (is_among known text) refl
  where
    by_case : (b : Bool) → is_among known text ≡ b → Numbered (with_text known (Some text)) text
    by_case true h = let n = among-numbered known text h in (n.0, rw h n.1)
    by_case false h = (length known, rw h (slice_get-seam known text []))

-- Each token that is spelt is one for the grammar.
kind-of : (known : List (List ℕ)) (k : TokenKind) (text : List ℕ) → (kind : Kind) × KindIs (with_text known (text_of k text)) k text kind
kind-of known spelt.Name text = let n = joined-numbered known text in (kinds.Name (record { 0 = n.0 }), (record { 0 = n.0 }, refl, n.1))
kind-of known (spelt.Number value) text = (kinds.Number value, refl)
kind-of known spelt.Text text = let n = joined-numbered known (unquoted text) in (kinds.Text (record { 0 = n.0 }), (record { 0 = n.0 }, refl, n.1))
kind-of known (spelt.Keyword word) text = (word_kind word, refl)
kind-of known (spelt.Symbol symbol) text = (symbol_kind symbol, refl)

texts-grow : (known : List (List ℕ)) (items : List Item) → (more : List (List ℕ)) × (texts_behind known items ≡ known ++ more)
texts-grow known [] = ([], sym (append-nil known))
texts-grow known (item ∷ items) =
    let one = with_text-grows known (text_of item.kind item.text) in
    let rest = texts-grow (with_text known (text_of item.kind item.text)) items in
    (one.0 ++ rest.0, rest.1 ∙ ap (λ texts. texts ++ rest.0) one.1 ∙ append_assoc known one.0 rest.0)

tokens-of : (known : List (List ℕ)) (items : List Item) → (tokens : List Token) × TokensAre (texts_behind known items) items tokens
tokens-of known [] = ([], tt)
tokens-of known (item ∷ items) =
    let now = with_text known (text_of item.kind item.text) in
    let k = kind-of known item.kind item.text in
    let t : Token = record { kind = k.0; at = item.at } in
    let here : TokensAre now (item ∷ []) (t ∷ []) = (record { at = refl; kind = k.1 }, tt) in
    let grown = texts-grow now items in
    let P : List (List ℕ) → Type 0 = λ texts. TokensAre texts (item ∷ []) (t ∷ []) in
    let there : TokensAre (texts_behind now items) (item ∷ []) (t ∷ []) = subst P (sym grown.1) (tokens_stay now grown.0 (item ∷ []) (t ∷ []) here) in
    let rest = tokens-of now items in
    (t ∷ rest.0, (there.0, rest.1))

-- The tokens of a file for the grammar, after texts that are known.
record Lexed (number : ℕ) (bytes : List ℕ) (known : List (List ℕ)) : Type 0 where
  texts : List (List ℕ)
  tokens : List Token
  bytes_refused : Option Refusal
  are : AreTokensOf number bytes known texts tokens bytes_refused

lexed : (number : ℕ) (bytes : List ℕ) (known : List (List ℕ)) → Lexed number bytes known
lexed number bytes known = by_end (tokens-or-stop number bytes)
  where
    by_end : ((items : List Item) × IsTokensOf number bytes items) ⊎ ((items : List Item) × (refusal : Refusal) × StopsAt number bytes items refusal) → Lexed number bytes known
    by_end (inl s) =
        let t = tokens-of known s.0 in
        record { texts = texts_behind known s.0; tokens = t.0; bytes_refused = None; are = record { items = s.0; spelt = s.1; texts_are = refl; tokens_are = t.1 } }
    by_end (inr s) =
        let t = tokens-of known s.0 in
        record {
          texts = texts_behind known s.0;
          tokens = t.0 ++ record { kind = kinds.Bad; at = s.1.at } ∷ [];
          bytes_refused = Some s.1;
          are = record { items = s.0; front = t.0; spelt = s.2; texts_are = refl; tokens_are = t.1; whole = refl };
        }

-- One file.
record IsRead (number most : ℕ) (known : List (List ℕ)) (bytes : List ℕ) : Type 0 where
  texts : List (List ℕ)
  tokens : List Token
  trees : List DeclTree
  reads : ReadsFile number most known bytes texts tokens trees

record IsMisread (number most : ℕ) (known : List (List ℕ)) (bytes : List ℕ) : Type 0 where
  refusal : Refusal
  refuses : RefusesFile number most known bytes refusal

whole-built : (number most : ℕ) (bytes : List ℕ) (known texts : List (List ℕ)) (tokens : List Token) (bytes_refused : Option Refusal) (made : Made)
    → AreTokensOf number bytes known texts tokens bytes_refused → read_file most tokens [] ≡ Built made → IsWholeFile number bytes known texts tokens
whole-built number most bytes known texts tokens None made are built = are
whole-built number most bytes known texts tokens (Some refusal) made are built =
    let bad : read_file most (are.front ++ record { kind = kinds.Bad; at = refusal.at } ∷ []) [] ≡ Built made = ap (λ ts. read_file most ts []) (sym are.whole) ∙ built in
    absurd (bad_never_built most 0 are.front (Read File ∷ []) (record { vals = []; decls = [] }) made refusal.at bad)

one-file : (number most : ℕ) (known : List (List ℕ)) (bytes : List ℕ) → IsRead number most known bytes ⊎ IsMisread number most known bytes
one-file number most known bytes = by_lexed (lexed number bytes known)
  where
    by_ending : (l : Lexed number bytes known) (ending : Ending) → read_file most l.tokens [] ≡ ending → IsRead number most known bytes ⊎ IsMisread number most known bytes
    by_ending l (Built made) e =
        let accepted = built_is_accepted most l.tokens [] made e in
        inl (record {
          texts = l.texts;
          tokens = l.tokens;
          trees = accepted.0;
          reads = record { tokens_are = whole-built number most bytes known l.texts l.tokens l.bytes_refused made l.are e; accepted = accepted.1; few = accepted.3 };
        })
    by_ending l (Refused rule left) e =
        inr (record {
          refusal = refusal_of (behind_bytes (first_place number) bytes) l.tokens l.bytes_refused rule left;
          refuses = record {
            texts = l.texts;
            tokens = l.tokens;
            bytes_refused = l.bytes_refused;
            rule = rule;
            left = left;
            tokens_are = l.are;
            wrong = refused_is_wrong most l.tokens [] rule left e;
            is = refl;
          };
        })

    by_lexed : (l : Lexed number bytes known) → IsRead number most known bytes ⊎ IsMisread number most known bytes
    by_lexed l = by_ending l (read_file most l.tokens []) refl

-- Files in order.
record AreRead (number most : ℕ) (known : List (List ℕ)) (files : List (List ℕ)) : Type 0 where
  texts : List (List ℕ)
  trees : List DeclTree
  reads : ReadsFiles number most known files texts trees

record AreMisread (number most : ℕ) (known : List (List ℕ)) (files : List (List ℕ)) : Type 0 where
  refusal : Refusal
  refuses : RefusesFiles number most known files refusal

all-files : (number most : ℕ) (known : List (List ℕ)) (files : List (List ℕ)) → AreRead number most known files ⊎ AreMisread number most known files
all-files number most known [] = inl (record { texts = known; trees = []; reads = (refl, refl) })
all-files number most known (bytes ∷ files) = by_first (λ left texts. all-files (number + 1) left texts files) (one-file number most known bytes)
  where
    by_others : (r : IsRead number most known bytes) → AreRead (number + 1) (most - length r.tokens) r.texts files ⊎ AreMisread (number + 1) (most - length r.tokens) r.texts files
        → AreRead number most known (bytes ∷ files) ⊎ AreMisread number most known (bytes ∷ files)
    by_others r (inl s) = inl (record { texts = s.texts; trees = r.trees ++ s.trees; reads = (r.texts, r.tokens, r.trees, s.trees, r.reads, s.reads, refl) })
    by_others r (inr s) = inr (record { refusal = s.refusal; refuses = inr (r.texts, r.tokens, r.trees, r.reads, s.refuses) })

    by_first : ((left : ℕ) (texts : List (List ℕ)) → AreRead (number + 1) left texts files ⊎ AreMisread (number + 1) left texts files) → IsRead number most known bytes ⊎ IsMisread number most known bytes
        → AreRead number most known (bytes ∷ files) ⊎ AreMisread number most known (bytes ∷ files)
    by_first others (inl r) = by_others r (others (most - length r.tokens) r.texts)
    by_first others (inr s) = inr (record { refusal = s.refusal; refuses = inl s.refuses })

-- A package.
pub read-or-refused : FilesAreReadOrRefused
read-or-refused name files = by_files (all-files 0 262144 [] files)
  where
    by_files : AreRead 0 262144 [] files ⊎ AreMisread 0 262144 [] files → IsReadOrRefused name files
    by_files (inl r) =
        let p = package-of name r.texts r.trees in
        let P : List (List ℕ) → Type 0 = λ texts. ReadsFiles 0 262144 [] files texts (decls_of p.0) in
        let Q : List DeclTree → Type 0 = ReadsFiles 0 262144 [] files r.texts in
        inl (p.0, record { named = p.1; read = subst P (sym p.2) (subst Q (sym p.3) r.reads) })
    by_files (inr s) = inr (s.refusal, s.refuses)
