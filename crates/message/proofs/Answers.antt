-- What a test tells of a function's answer: the definition that it equals has the same value.
use mathlib.Core.Path.{◌≡◌, sym, ◌∙◌}
use mathlib.Core.Bool.{Bool, true, false, not}
use borrow.Author.Tests.{not-true, not-false}

pub denied : {answer defined : Bool} → answer ≡ defined → not answer ≡ true → defined ≡ false
denied {answer} e t = sym e ∙ not-true answer t

pub granted : {answer defined : Bool} → answer ≡ defined → not answer ≡ false → defined ≡ true
granted {answer} e t = sym e ∙ not-false answer t
