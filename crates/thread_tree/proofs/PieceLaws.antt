-- A call and its pieces: they fill the places behind its word, and with the word they are all of it.
use Rattle.std.proofs.Common.{◌≡◌, refl, sym, ap₂, ◌∙◌}
use Rattle.std.specs.Prelude.{true, List, [], ◌∷◌, map, Option, Some, None}
use Rattle.thread_tree.specs.declared.action.Call.{Call}
use Rattle.thread_tree.specs.declared.action.Call.TheVariants as call
use Rattle.thread_tree.specs.declared.token.Word.{Word}
use Rattle.thread_tree.specs.declared.token.Word.TheVariants as word
use Rattle.thread_tree.specs.Pieces.{Piece, named, valued, whom, itemized, applied, slot_of, word_of, pieces, shape, fit}

-- the pieces of a call fill the places behind its word, and what goes on at a comma stands last
pub has_shape : (c : Call) → (shape (word_of c) ≡ Some (map slot_of (pieces c))) × (fit (map slot_of (pieces c)) ≡ true)
unfolding shape
has_shape (call.Print items) = (refl, refl)
has_shape (call.Spawn template arguments) = (refl, refl)
has_shape (call.Delete w) = (refl, refl)
has_shape (call.Delay ticks) = (refl, refl)
has_shape (call.Setprio w priority) = (refl, refl)
has_shape (call.Getprio w) = (refl, refl)
has_shape (call.Send queue value limit) = (refl, refl)
has_shape (call.Receive queue limit) = (refl, refl)
has_shape (call.Take semaphore limit) = (refl, refl)
has_shape (call.Give semaphore) = (refl, refl)
has_shape call.Now = (refl, refl)
has_shape call.Yield = (refl, refl)
has_shape (call.Waiting queue) = (refl, refl)

-- the call of a word and pieces
abbrev call_of : Word → List Piece → Option Call
call_of word.Print (itemized items ∷ []) = Some (call.Print items)
call_of word.Spawn (applied template arguments ∷ []) = Some (call.Spawn template arguments)
call_of word.Delete (whom w ∷ []) = Some (call.Delete w)
call_of word.Delay (valued ticks ∷ []) = Some (call.Delay ticks)
call_of word.Setprio (whom w ∷ valued priority ∷ []) = Some (call.Setprio w priority)
call_of word.Getprio (whom w ∷ []) = Some (call.Getprio w)
call_of word.Send (named needed queue ∷ valued value ∷ valued limit ∷ []) = Some (call.Send queue value limit)
call_of word.Receive (named needed queue ∷ valued limit ∷ []) = Some (call.Receive queue limit)
call_of word.Take (named needed semaphore ∷ valued limit ∷ []) = Some (call.Take semaphore limit)
call_of word.Give (named needed semaphore ∷ []) = Some (call.Give semaphore)
call_of word.Now [] = Some call.Now
call_of word.Yield [] = Some call.Yield
call_of word.Waiting (named needed queue ∷ []) = Some (call.Waiting queue)
call_of _ _ = None

again : (c : Call) → call_of (word_of c) (pieces c) ≡ Some c
again (call.Print items) = refl
again (call.Spawn template arguments) = refl
again (call.Delete w) = refl
again (call.Delay ticks) = refl
again (call.Setprio w priority) = refl
again (call.Getprio w) = refl
again (call.Send queue value limit) = refl
again (call.Receive queue limit) = refl
again (call.Take semaphore limit) = refl
again (call.Give semaphore) = refl
again call.Now = refl
again call.Yield = refl
again (call.Waiting queue) = refl

-- calls of one word with the same pieces are one
pub same_call : (c d : Call) → word_of c ≡ word_of d → pieces c ≡ pieces d → c ≡ d
same_call c d words ps = let e : Some c ≡ Some d = sym (again c) ∙ (ap₂ call_of words ps ∙ again d) in cc
