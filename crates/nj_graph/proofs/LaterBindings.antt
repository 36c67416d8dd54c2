-- Bindings after the statement of an edge.
use Rattle.std.proofs.Common.{◌≡◌, ℕ, if◌then◌else◌, Some, None, unwrap_or, List, [], ◌∷◌, refl, sym, ap, ◌∙◌}
use Rattle.std.proofs.Common.{eq-eqb}
use Rattle.nj_scope.proofs.Gathering.{with_given}
use Rattle.std.specs.Option.{option_or}
use Rattle.std.proofs.lemmas.Slice.Eq.{bytes_eq-Decides}
use Rattle.nj_text.specs.Words.{WordModel}
use Rattle.nj_manifest.specs.Statements.{StatementModel, BindingModel}
use Rattle.nj_scope.specs.Scopes.{first_given, value_in, expanded}
use Rattle.nj_scope.specs.ReadingList.{ReadStatement, scope_of, binds, bounds}
use Rattle.nj_statements.specs.EdgeList.{EdgeModel, edges_read, edge_given}
use Rattle.nj_graph.specs.Reading.{expanded_in}
use Rattle.nj_graph.specs.Laws.{LaterBindingsCount, LaterBindingsChangeNoEdge}

-- the binding of the edge's scope is the new value
binds-now : (e : ReadStatement) (before : List ReadStatement) (edge : EdgeModel) (name : List ℕ)
    (word : WordModel) → e.item ≡ BindingModel name word → e.scope ≡ edge.scope
    → bounds (e ∷ before) edge.scope name ≡ Some (expanded_in (scope_of e) before word)
unfolding bounds
binds-now e before edge name word is number =
    ap (λ b. option_or (if b then binds value e.item name else None) (bounds before edge.scope name))
    (eq-eqb edge.scope e.scope (sym number))
    ∙ ap (λ (i : StatementModel). option_or (binds value i name) (bounds before edge.scope name)) is
    ∙ ap (λ b. option_or (if b then Some (expanded value word.parts) else None)
    (bounds before edge.scope name)) ((bytes_eq-Decides name name).1 refl)
  where
    value : List ℕ → List ℕ
    value = value_in (bounds before) (scope_of e)

pub later_bindings_count : LaterBindingsCount
later_bindings_count e before edge name word is number =
    ap (λ o. unwrap_or (option_or o (first_given (λ s. bounds (e ∷ before) s name) edge.around)) [])
    (binds-now e before edge name word is number)

pub later_bindings_change_no_edge : LaterBindingsChangeNoEdge
unfolding edges_read
later_bindings_change_no_edge e before name word is =
    ap (λ i. with_given (edges_read before) (edge_given e before i)) is
