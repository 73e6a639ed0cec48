-- The bodies among the declarations.
use Rattle.std.specs.Prelude.{ℕ, ◌==◌, if◌then◌else◌, Option, Some, None}
use Rattle.thread_tree.specs.declared.tree.Decl.{Decl}
use Rattle.thread_tree.specs.declared.tree.Decl.TheVariants as decl
use Rattle.thread_tree.specs.Program.{Body, names_of}
use Rattle.thread_machine.specs.declared.body.Body.{Body as BodySeen}

-- a body with what its references point to
abbrev pub seen : BodySeen → Body
seen body = record { parameters = names_of body.parameters.now; block = body.block.now }

-- the body of a declaration, if it is a function of this name
abbrev pub function_in : Decl → ℕ → Option Body
function_in (decl.Kind at fields) name = None
function_in (decl.Object at kind) name = None
function_in (decl.Queue at capacity channel) name = None
function_in (decl.Semaphore at count maximum) name = None
function_in (decl.Function at parameters body) name =
    if at.name == name then Some (record { parameters = names_of parameters; block = body }) else None
function_in (decl.Thread at parameters priority body) name = None
function_in (decl.Start place at arguments) name = None

-- the body of a declaration, if it is a thread template
abbrev pub thread_in : Decl → Option Body
thread_in (decl.Kind at fields) = None
thread_in (decl.Object at kind) = None
thread_in (decl.Queue at capacity channel) = None
thread_in (decl.Semaphore at count maximum) = None
thread_in (decl.Function at parameters body) = None
thread_in (decl.Thread at parameters priority body) = Some (record { parameters = names_of parameters; block = body })
thread_in (decl.Start place at arguments) = None

-- the body of a declaration, if it has one
abbrev pub body_in : Decl → Option Body
body_in (decl.Kind at fields) = None
body_in (decl.Object at kind) = None
body_in (decl.Queue at capacity channel) = None
body_in (decl.Semaphore at count maximum) = None
body_in (decl.Function at parameters body) = Some (record { parameters = names_of parameters; block = body })
body_in (decl.Thread at parameters priority body) = Some (record { parameters = names_of parameters; block = body })
body_in (decl.Start place at arguments) = None
