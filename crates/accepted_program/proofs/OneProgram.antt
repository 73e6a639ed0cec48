-- A text spells one program at most.
use Rattle.std.proofs.Common.{◌≡◌, ℕ, List, sym, ap, subst, ◌∙◌}
use Rattle.thread_tree.specs.declared.tree.Tree.{Tree}
use Rattle.thread_check.specs.Declarations.{declarations_rule}
use Rattle.thread_check.specs.Faults.{no_names, fault_in, fault_of}
use Rattle.accepted_program.specs.Accepted.{IsSpelling, IsAccepted}
use Rattle.accepted_program.proofs.Declarations.{unambiguous_program}

pub same_names : (text : List ℕ) (t u : Tree) → IsSpelling text t → IsSpelling text u → t.names ≡ u.names
same_names text t u first second = first.names ∙ sym second.names

pub same_decls : (text : List ℕ) (t u : Tree) → IsSpelling text t → IsSpelling text u → t.decls ≡ u.decls
same_decls text t u first second = unambiguous_program _ t.decls u.decls first.spelled second.spelled

same_tree : (t u : Tree) → t.names ≡ u.names → t.decls ≡ u.decls → t ≡ u
same_tree t u names decls = λ i. record { names = names i; decls = decls i }

pub one_tree : (text : List ℕ) (t u : Tree) → IsSpelling text t → IsSpelling text u → t ≡ u
one_tree text t u first second = same_tree t u (same_names text t u first second) (same_decls text t u first second)

-- what is accepted as one tree is accepted as each that it spells
pub accepted_too : (text : List ℕ) (t u : Tree) → IsAccepted text t → IsSpelling text u → IsAccepted text u
accepted_too text t u accepted spelling = subst (IsAccepted text) (one_tree text t u accepted.spelling spelling) accepted

-- the rules read the declarations alone
pub same_fault : (t u : Tree) → t.decls ≡ u.decls → fault_of t ≡ fault_of u
unfolding fault_of
same_fault t u same = ap (λ decls. fault_in (declarations_rule no_names 0 decls)) same
