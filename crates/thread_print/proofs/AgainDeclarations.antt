-- The canonical tokens of declarations spell them again.
use Rattle.std.proofs.Common.{List, Option}
use Rattle.std.specs.List.{flat_map}
use Rattle.thread_tree.specs.declared.place.At.{At}
use Rattle.thread_tree.specs.declared.place.Num.{Num}
use Rattle.thread_tree.specs.declared.token.Placed.{Placed}
use Rattle.thread_tree.specs.Spelling.{Anywhere}
use Rattle.thread_tree.specs.declared.tree.Decl.{Decl}
use Rattle.thread_tree.specs.SpellingOfDeclarations as de
use Rattle.thread_tree.specs.SpellingOfDeclarations.{SpellsChannel, SpellsChannelBy, SpellsDecl, SpellsDeclBy, SpellsDecls, SpellsDeclsBy, SpellsNumbers, SpellsNumbersBy, SpellsParameters, SpellsParametersBy}
use Rattle.thread_print.specs.Canonical.{channel_end, declaration, parameters, start_values}
use Rattle.thread_print.proofs.Again.{Again, any, at, both, nothing, turned}
use Rattle.thread_print.proofs.AgainBlocks.{block_again}
use Rattle.thread_print.proofs.AgainCalls.{names_again, numbers_again}

-- parameters, the arguments of a start, and the end of a queue's declaration
parameters_again : {start end : List Placed} {ats : List At} → SpellsParameters start end ats → Again (parameters ats) (λ b a. SpellsParametersBy Anywhere b a ats) start end
parameters_again (de.no_parameters closes) = turned (any closes) (λ b a o. de.no_parameters o)
parameters_again (de.parameters spells closes) = turned (both (names_again spells) (any closes)) (λ b a o. de.parameters o.first o.second)

start_values_again : {start end : List Placed} {ns : List Num} → SpellsNumbers start end ns → Again (start_values ns) (λ b a. SpellsNumbersBy Anywhere b a ns) start end
start_values_again (de.no_numbers closes) = turned (any closes) (λ b a o. de.no_numbers o)
start_values_again (de.numbers spells closes) = turned (both (numbers_again spells) (any closes)) (λ b a o. de.numbers o.first o.second)

channel_again : {start end : List Placed} {n : Option Num} → SpellsChannel start end n → Again (channel_end n) (λ b a. SpellsChannelBy Anywhere b a n) start end
channel_again (de.no_channel ends) = turned (any ends) (λ b a o. de.no_channel o)
channel_again (de.channel {n = n} word number ends) = turned (both (both (any word) (at number)) (any ends)) (λ b a o. de.channel {n = n} o.first.first o.first.second o.second)

-- a declaration
decl_again : {start end : List Placed} {x : Decl} → SpellsDecl start end x → Again (declaration x) (λ b a. SpellsDeclBy Anywhere b a x) start end
decl_again (de.kind {name = name} d0 d1 d2 d3 d4) = turned (both (any d0) (both (at d1) (both (any d2) (both (names_again d3) (any d4))))) (λ b a o. de.kind {name = name} o.first o.second.first o.second.second.first o.second.second.second.first o.second.second.second.second)
decl_again (de.object {name = name} {kind = kind} d0 d1 d2 d3 d4) = turned (both (any d0) (both (at d1) (both (any d2) (both (at d3) (any d4))))) (λ b a o. de.object {name = name} {kind = kind} o.first o.second.first o.second.second.first o.second.second.second.first o.second.second.second.second)
decl_again (de.queue {name = name} {capacity = capacity} d0 d1 d2 d3 d4 d5) = turned (both (any d0) (both (at d1) (both (any d2) (both (at d3) (both (any d4) (channel_again d5)))))) (λ b a o. de.queue {name = name} {capacity = capacity} o.first o.second.first o.second.second.first o.second.second.second.first o.second.second.second.second.first o.second.second.second.second.second)
decl_again (de.semaphore {name = name} {start = start} {most = most} d0 d1 d2 d3 d4 d5 d6) = turned (both (any d0) (both (at d1) (both (any d2) (both (at d3) (both (any d4) (both (at d5) (any d6))))))) (λ b a o. de.semaphore {name = name} {start = start} {most = most} o.first o.second.first o.second.second.first o.second.second.second.first o.second.second.second.second.first o.second.second.second.second.second.first o.second.second.second.second.second.second)
decl_again (de.function {name = name} d0 d1 d2 d3 d4) = turned (both (any d0) (both (at d1) (both (any d2) (both (parameters_again d3) (block_again d4))))) (λ b a o. de.function {name = name} o.first o.second.first o.second.second.first o.second.second.second.first o.second.second.second.second)
decl_again (de.thread {name = name} {priority = priority} d0 d1 d2 d3 d4 d5 d6) = turned (both (any d0) (both (at d1) (both (any d2) (both (parameters_again d3) (both (any d4) (both (at d5) (block_again d6))))))) (λ b a o. de.thread {name = name} {priority = priority} o.first o.second.first o.second.second.first o.second.second.second.first o.second.second.second.second.first o.second.second.second.second.second.first o.second.second.second.second.second.second)
decl_again (de.start {place = place} {name = name} d0 d1 d2 d3 d4) = turned (both (at d0) (both (at d1) (both (any d2) (both (start_values_again d3) (any d4))))) (λ b a o. de.start {place = place} {name = name} o.first o.second.first o.second.second.first o.second.second.second.first o.second.second.second.second)

-- declarations one after another
pub decls_again : {start end : List Placed} {xs : List Decl} → SpellsDecls start end xs → Again (flat_map declaration xs) (λ b a. SpellsDeclsBy Anywhere b a xs) start end
decls_again de.no_decls = nothing (λ b. de.no_decls)
decls_again (de.decls first rest) = turned (both (decl_again first) (decls_again rest)) (λ b a o. de.decls o.first o.second)
