mod WorkedEvents
