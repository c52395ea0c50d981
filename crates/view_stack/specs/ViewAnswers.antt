-- States and refusals, as calls tell them.
use Rattle.std.specs.Prelude.{◌<◌, ◌≤◌, length, ℕ, Option, option_map, Result, Ok, Err, List, map}
use Rattle.view_model.specs.Forest.{Forest, ViewState as State, Live as live, Committed as committed, Invalid as invalid, Closed as closed}
use Rattle.view_model.specs.Calls.{number_limit, Refusal, Unknown as unknown, NotLive as not_live, TooMany as too_many, TooDeep as too_deep, TooHeavy as too_heavy, Answer, Given as given, Done as done, Refused as refused, NoMemory as no_memory}
use Rattle.view_stack.specs.declared.state.ViewId.{ViewId}
use Rattle.view_stack.specs.declared.state.ViewState.{ViewState}
use Rattle.view_stack.specs.declared.state.ViewState.TheVariants.{Live, Committed, Invalid, Closed}
use Rattle.view_stack.specs.declared.fault.ViewFault.{ViewFault}
use Rattle.view_stack.specs.declared.fault.ViewFault.TheVariants.{Unknown, NotLive, TooMany, TooDeep, TooHeavy, NoMemory}

abbrev pub state_told : State → ViewState
state_told live = Live
state_told committed = Committed
state_told invalid = Invalid
state_told closed = Closed

abbrev pub state_meant : ViewState → State
state_meant Live = live
state_meant Committed = committed
state_meant Invalid = invalid
state_meant Closed = closed

abbrev pub fault_told : Refusal → ViewFault
fault_told unknown = Unknown
fault_told (not_live s) = NotLive (state_told s)
fault_told too_many = TooMany
fault_told too_deep = TooDeep
fault_told too_heavy = TooHeavy

-- a number that is handed in, where there is one
abbrev pub number_in : Option ViewId → Option ℕ
number_in id = option_map (λ (i : ViewId). i.number) id

-- ---- answers

abbrev pub answer_of_fault : ViewFault → Answer
answer_of_fault Unknown = refused unknown
answer_of_fault (NotLive s) = refused (not_live (state_meant s))
answer_of_fault TooMany = refused too_many
answer_of_fault TooDeep = refused too_deep
answer_of_fault TooHeavy = refused too_heavy
answer_of_fault NoMemory = no_memory

-- what `make` answers
abbrev pub given_answer : Result ViewId ViewFault → Answer
given_answer (Ok id) = given id.number
given_answer (Err fault) = answer_of_fault fault

-- what `close` answers
abbrev pub done_answer : Result (Unit {0}) ViewFault → Answer
done_answer (Ok x) = done
done_answer (Err fault) = answer_of_fault fault

abbrev pub numbers : List ViewId → List ℕ
numbers ids = map (λ (i : ViewId). i.number) ids

-- why there is no room for a direct batch
abbrev pub RoomFails : Forest → ViewFault → Type 0
RoomFails f TooMany = number_limit ≤ length f.views
RoomFails f NoMemory = length f.views < number_limit
RoomFails f Unknown = ⊥
RoomFails f (NotLive s) = ⊥
RoomFails f TooDeep = ⊥
RoomFails f TooHeavy = ⊥
