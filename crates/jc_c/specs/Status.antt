-- Which status an outcome has, and its number.
use Rattle.std.specs.Prelude.{ℕ, true, false, Some, None}
use Rattle.jc_model.specs.declared.call.By.{By}
use Rattle.jc_model.specs.declared.call.By.TheVariants as by
use Rattle.jc_model.specs.declared.call.Reply.{Reply}
use Rattle.jc_model.specs.declared.call.Reply.TheVariants as reply
use Rattle.jc_model.specs.declared.call.Request.{Request}
use Rattle.jc_model.specs.declared.call.Request.TheVariants as request
use Rattle.jc_model.specs.declared.event.Cause.{Cause}
use Rattle.jc_model.specs.declared.event.Cause.TheVariants as cause
use Rattle.jc_model.specs.declared.event.CreateRefusal.{CreateRefusal}
use Rattle.jc_model.specs.declared.event.CreateRefusal.TheVariants as create
use Rattle.jc_model.specs.declared.event.Outcome.{Outcome}
use Rattle.jc_model.specs.declared.event.Outcome.TheVariants as outcome
use Rattle.jc_model.specs.declared.event.Step.{Step}
use Rattle.jc_model.specs.declared.event.Step.TheVariants as step
use Rattle.jc_c.specs.declared.status.Fault.{Fault}
use Rattle.jc_c.specs.declared.status.Fault.TheVariants as fault
use Rattle.jc_c.specs.declared.status.Status.{Status}
use Rattle.jc_c.specs.declared.status.Status.TheVariants as status

abbrev pub status_number : Status → ℕ
status_number status.Done = 0
status_number status.False = 1
status_number status.True = 2
status_number status.Found = 3
status_number status.Nothing = 4
status_number status.Listed = 5
status_number status.Results = 6
status_number status.Counted = 7
status_number status.LoaderFailed = 8
status_number status.WriterFailed = 9
status_number status.ProcessorFailed = 10
status_number status.NeedLoad = 16
status_number status.NeedWrite = 17
status_number status.NeedDelete = 18
status_number status.NeedProcess = 19
status_number status.NeedTell = 20
status_number status.NoSuchCache = 32
status_number status.Busy = 33
status_number status.NoSuchProcessor = 34
status_number status.NoTurn = 35
status_number status.WrongAnswer = 36
status_number status.OutOfMemory = 37
status_number status.TooManyCaches = 48
status_number status.BadCapacity = 49
status_number status.TooManyListeners = 50
status_number status.TooManyProcessors = 51
status_number status.DuplicateName = 52
status_number status.TotalCapacity = 53
status_number status.IdsSpent = 54
status_number status.Closed = 64
status_number status.InUse = 65
status_number status.BadKey = 66
status_number status.BadValue = 67
status_number status.BadLengths = 68
status_number status.TooManyKeys = 69
status_number status.DuplicateKey = 70
status_number status.BadChoice = 71
status_number status.NoItem = 72
status_number status.ShortBuffer = 73
status_number status.BadSave = 74
status_number status.OtherVersion = 75

abbrev pub cause_status : Cause → Status
cause_status cause.NoSuchCache = status.NoSuchCache
cause_status cause.Busy = status.Busy
cause_status cause.NoSuchProcessor = status.NoSuchProcessor
cause_status cause.NoTurn = status.NoTurn
cause_status cause.WrongAnswer = status.WrongAnswer
cause_status cause.OutOfMemory = status.OutOfMemory

abbrev pub refusal_status : CreateRefusal → Status
refusal_status create.TooManyCaches = status.TooManyCaches
refusal_status create.BadCapacity = status.BadCapacity
refusal_status create.TooManyListeners = status.TooManyListeners
refusal_status create.TooManyProcessors = status.TooManyProcessors
refusal_status create.DuplicateName = status.DuplicateName
refusal_status create.TotalCapacity = status.TotalCapacity
refusal_status create.IdsSpent = status.IdsSpent
refusal_status create.OutOfMemory = status.OutOfMemory

abbrev pub fault_status : Fault → Status
fault_status fault.BadKey = status.BadKey
fault_status fault.BadValue = status.BadValue
fault_status fault.BadLengths = status.BadLengths
fault_status fault.TooManyKeys = status.TooManyKeys
fault_status fault.DuplicateKey = status.DuplicateKey
fault_status fault.BadChoice = status.BadChoice
fault_status fault.OutOfMemory = status.OutOfMemory

-- whose fault ended a call
abbrev pub by_status : By → Status
by_status by.Loader = status.LoaderFailed
by_status by.Writer = status.WriterFailed
by_status by.Processor = status.ProcessorFailed

abbrev pub reply_status : Reply → Status
reply_status reply.Done = status.Done
reply_status (reply.Truth false) = status.False
reply_status (reply.Truth true) = status.True
reply_status (reply.Found (Some v)) = status.Found
reply_status (reply.Found None) = status.Nothing
reply_status (reply.Listed pairs) = status.Listed
reply_status (reply.Results results) = status.Results
reply_status (reply.Counted counts) = status.Counted
reply_status (reply.Fault who count) = by_status who

abbrev pub request_status : Request → Status
request_status (request.Load k) = status.NeedLoad
request_status (request.Write k v) = status.NeedWrite
request_status (request.Delete k) = status.NeedDelete
request_status (request.Process k processor v argument) = status.NeedProcess
request_status (request.Tell notices) = status.NeedTell

abbrev pub step_status : Step → Status
step_status (step.Done r) = reply_status r
step_status (step.Need q) = request_status q

abbrev pub outcome_status : Outcome → Status
outcome_status (outcome.Step s) = step_status s
outcome_status (outcome.Refused why) = cause_status why
outcome_status (outcome.GivenUp notices) = status.Done
outcome_status (outcome.Created id) = status.Done
outcome_status (outcome.CreateRefused refusal) = refusal_status refusal
outcome_status outcome.Destroyed = status.Done
