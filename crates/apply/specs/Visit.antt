-- The walk of a combination, each pair once, in the order in which it finishes them.
use Rattle.std.specs.Prelude.{true, false, List, [], ◌∷◌, ◌++◌}
use Rattle.basics.specs.Tests.{below, equal, above, cmp}
use Rattle.basics.specs.Members.{mem}
use Rattle.diagram.specs.Diagram.{Diagram, leaf, branch, same}
use Rattle.apply.specs.declared.Operation.{Operation}
use Rattle.apply.specs.Pairs.{Pair, same_pair, ends}

-- the pairs of `done`, and behind them those from (a, b) on that are not there yet: the successor by true first, the pair itself last
unfoldable pub visit : Operation → Diagram → Diagram → List Pair → List Pair
unfolding cmp same
visit op (leaf v) (leaf w) done = elim (mem same_pair (leaf v, leaf w) done) [ true ↦ done | false ↦ done ++ ((leaf v, leaf w) ∷ []) ]
visit op (leaf v) (branch k u g) done = elim (mem same_pair (leaf v, branch k u g) done) [
  | true ↦ done
  | false ↦ elim (ends op (leaf v) (branch k u g)) [
    | true ↦ done ++ ((leaf v, branch k u g) ∷ [])
    | false ↦ visit op (leaf v) g (visit op (leaf v) u done) ++ ((leaf v, branch k u g) ∷ [])
  ]
]
visit op (branch l t f) (leaf w) done = elim (mem same_pair (branch l t f, leaf w) done) [
  | true ↦ done
  | false ↦ elim (ends op (branch l t f) (leaf w)) [
    | true ↦ done ++ ((branch l t f, leaf w) ∷ [])
    | false ↦ visit op f (leaf w) (visit op t (leaf w) done) ++ ((branch l t f, leaf w) ∷ [])
  ]
]
visit op (branch l t f) (branch k u g) done = elim (mem same_pair (branch l t f, branch k u g) done) [
  | true ↦ done
  | false ↦ elim (ends op (branch l t f) (branch k u g)) [
    | true ↦ done ++ ((branch l t f, branch k u g) ∷ [])
    | false ↦ elim (cmp l k) [
      | below h ↦ visit op f (branch k u g) (visit op t (branch k u g) done) ++ ((branch l t f, branch k u g) ∷ [])
      | equal e ↦ visit op f g (visit op t u done) ++ ((branch l t f, branch k u g) ∷ [])
      | above h ↦ visit op (branch l t f) g (visit op (branch l t f) u done) ++ ((branch l t f, branch k u g) ∷ [])
    ]
  ]
]
