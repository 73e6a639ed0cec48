use Rattle.std.proofs.Common.{◌++◌, ◌∷◌, [], take, refl, sym, ap, ◌∙◌}
use Rattle.thread_tree.specs.declared.token.Token.TheVariants.{Name as name_token}
use Rattle.thread_tokens.specs.Steps.{going_on}
use Rattle.thread_tokens.specs.Scan.{after, ended, index_of, with_name}
use Rattle.thread_tokens.proofs.ScanLemmas.{step_blank, step_token, step_name, step_fault, moved}
use Rattle.thread_tokens.proofs.scanner.Scanner.step.Goals as goal

pub returns-in-Blank : goal.returns-in-Blank
returns-in-Blank c =
    let s = c.args.self.now in
    let rest = c.args.rest.now in
    let n = c.in-Blank.length in
    let goes = step_blank s.tokens.items s.names s.place rest n c.requires.more c.in-Blank.ensures.within c.requires.room c.in-Blank.ensures.same in
    record { goes_on = moved (going_on s.tokens.items s.names s.place rest) s.tokens.items s.tokens.items s.names s.names (after s.place (take n rest)) c.after-self.result rest n goes refl refl c.after-self.ensures.same }

pub returns-in_ok-push-in-Token : goal.returns-in_ok-push-in-Token
returns-in_ok-push-in-Token c =
    let s = c.args.self.now in
    let rest = c.args.rest.now in
    let n = c.in-Token.length in
    let new = c.push-in-Token.new.self in
    let goes = step_token s.tokens.items s.names s.place rest n c.in-Token.token c.requires.more c.in-Token.ensures.within c.requires.room c.in-Token.ensures.same in
    record { goes_on = moved (going_on s.tokens.items s.names s.place rest) (s.tokens.items ++ record { token = c.in-Token.token; place = s.place } ∷ []) new.tokens.items s.names new.names (after s.place (take n rest)) new.place rest n goes c.in_ok-push-in-Token.ensures.tokens c.in_ok-push-in-Token.ensures.names c.in_ok-push-in-Token.ensures.place }

pub returns-in_ok-push-in-Name : goal.returns-in_ok-push-in-Name
returns-in_ok-push-in-Name c =
    let s = c.args.self.now in
    let rest = c.args.rest.now in
    let n = c.in-Name.length in
    let name = c.in-Name.name in
    let new = c.push.new.self in
    let goes = step_name s.tokens.items s.names s.place rest n name c.requires.more c.in-Name.ensures.within c.requires.room c.in-Name.ensures.same in
    let tokens = c.in_ok-push-in-Name.ensures.tokens ∙ ap (λ index. s.tokens.items ++ record { token = name_token index; place = s.place } ∷ []) c.in_ok-index-in-Name.ensures.index in
    record { goes_on = moved (going_on s.tokens.items s.names s.place rest) (s.tokens.items ++ record { token = name_token (index_of name s.names); place = s.place } ∷ []) new.tokens.items (with_name name s.names) new.names (after s.place (take n rest)) new.place rest n goes tokens (c.in_ok-push-in-Name.ensures.names ∙ c.in_ok-index-in-Name.ensures.names) c.in_ok-push-in-Name.ensures.place }

pub returns-in-Wrong : goal.returns-in-Wrong
returns-in-Wrong c =
    let s = c.args.self.now in
    record { goes_on = step_fault s.tokens.items s.names s.place c.args.rest.now c.in-Wrong.fault c.requires.more c.in-Wrong.ensures.same ∙ ap (ended s.tokens.items s.names) (sym c.ending_at.ensures.same) }
